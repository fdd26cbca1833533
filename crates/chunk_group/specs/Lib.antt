-- what public clauses say
pub mod Faults
pub mod Owners
pub mod Loads
pub mod Kept
pub mod Looks
pub mod Fills
pub mod Outcomes
pub mod Holding
pub mod Nodes
pub mod Stores
pub mod Lone
pub mod Cached
pub mod Shelves
