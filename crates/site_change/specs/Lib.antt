-- what public clauses say
pub mod Changes
pub mod Decisions
pub mod Entries
pub mod Laws
pub mod Plans
pub mod Refusals
pub mod Uploaded
pub mod TouchedCells
-- what only private functions need: how two readings of cells differ
pub mod Differences
