mod AllImages
mod Counted
mod CutShort
pub mod Runs
