pub mod Machine
pub mod Theorem
pub mod Bodies
pub mod Blocks
pub mod Progress
pub mod Counting
