pub mod AddedFiles
mod NextEntry
