mod LeftParts
pub mod Locals
pub mod Params
pub mod Listed
pub mod Accepted
pub mod Attempted
pub mod CountedRuns
