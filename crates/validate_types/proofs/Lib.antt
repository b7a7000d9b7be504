pub mod Equal
pub mod Signatures
