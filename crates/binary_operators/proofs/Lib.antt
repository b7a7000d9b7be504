pub mod Examples
pub mod Items
pub mod LongNumbers
pub mod Powers
pub mod Sequences
pub mod Shorter
pub mod Vectors
pub mod Wherever
