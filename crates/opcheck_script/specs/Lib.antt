pub mod Status
pub mod Attempts
pub mod Reports
pub mod Texts
