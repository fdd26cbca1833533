mod Slices
pub mod CutPieces
mod Followed
mod Stretches
pub mod Wholes
pub mod NextPieces
pub mod Occurrences
pub mod PartsTaken
