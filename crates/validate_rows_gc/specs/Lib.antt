pub mod Casts
pub mod Descriptors
pub mod Found
pub mod Accesses
pub mod Clauses
pub mod Targets
pub mod Handlers
