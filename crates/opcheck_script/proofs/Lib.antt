pub mod Reports
mod Attempts
