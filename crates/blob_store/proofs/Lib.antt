mod Stored
mod TableTexts
mod Shelved
mod Additions
mod Once
mod StoredNames
mod Turns
mod FileReads
mod TakenFiles
pub mod Kept
pub mod KeptOpen
pub mod Honest
mod Foldered
mod FilePuts
pub mod FailedPuts
