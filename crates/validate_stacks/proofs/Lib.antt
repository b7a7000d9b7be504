mod Cuts
mod Undone
pub mod Phases
mod Marks
pub mod Looks
pub mod MatchedOperands
pub mod Validity
pub mod Whole
pub mod ClosedFrames
pub mod PopRuns
pub mod AtOnce
mod Idle
mod KnownAs
mod Changed
pub mod Moves
pub mod FieldValues
mod Examples
mod ExamplesChanges
mod Heights
