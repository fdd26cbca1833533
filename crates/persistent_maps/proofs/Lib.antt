pub mod Entries
pub mod Edits
mod Parts
mod Lookups
mod Below
mod WrittenBlocks
mod Past
mod Rows
mod Filters
mod Between
mod Replaced
