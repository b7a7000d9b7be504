pub mod Memory
pub mod Start
pub mod Begin
pub mod Runs
pub mod Validator
