pub mod Order
pub mod Parts
pub mod Numbers
pub mod Gates
pub mod Immediates
pub mod Branches
pub mod Arity
