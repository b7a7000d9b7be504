pub mod Decided
pub mod Found
pub mod Listed
pub mod LookedUp
pub mod Marked
pub mod Distinct
pub mod Depth
pub mod ExampleWords
mod ExamplesTypes
mod ExamplesDescriptors
mod ExamplesItems
mod ExamplesModule
mod ExamplesLimits
