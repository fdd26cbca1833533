pub mod Journaling
pub mod Committing
mod KeptByReads
mod StoredReads
mod HonestReads
pub mod StoredIf
pub mod Keeping
mod FilesKnown
mod SameUploads
pub mod KnownFiles
pub mod ExactReads
pub mod Honest
pub mod ReadBacks
pub mod Kept
pub mod Reached
pub mod Refusing
pub mod Opened
pub mod Growing
pub mod Refuted
pub mod EntryAnswers
pub mod OpenAnswers
pub mod ReadAnswers
pub mod UploadAnswers
pub mod ServerAnswers
pub mod Counting
