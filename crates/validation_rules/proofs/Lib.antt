pub mod Below
pub mod Steps
pub mod Pops
pub mod Rows
pub mod Order
pub mod PushesValid
pub mod Valid
pub mod ValidAggregates
pub mod ValidContinuations
pub mod ValidShared
pub mod ValidBodies
pub mod Refusals
pub mod ExampleWords
mod Examples
mod ExamplesBranches
mod ExamplesCalls
mod ExamplesMemory
mod ExamplesReferences
mod ExamplesNull
mod ExamplesTables
mod ExamplesAggregates
mod ExamplesCasts
mod ExamplesDescriptors
mod ExamplesExceptions
mod ExamplesShared
mod ExamplesContinuations
