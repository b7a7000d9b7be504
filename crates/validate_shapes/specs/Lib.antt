pub mod Operands
pub mod Accesses
