pub mod Lists
mod Attempts
mod Pieces
mod TextAfter
mod Indices
mod ReferenceNames
mod Marks
mod Named
mod Arrows
