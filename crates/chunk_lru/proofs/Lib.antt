pub mod Sizes
mod Entries
mod Evictions
mod OwnNames
mod Lookups
mod Fewest
mod Kept
