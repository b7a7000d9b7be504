pub mod Below
pub mod FoundSteps
pub mod CastBranches
pub mod DescriptorSteps
pub mod AccessRows
pub mod TryTables
pub mod LegacySteps
pub mod HandlerLists
pub mod ResumedRows
mod Sets
