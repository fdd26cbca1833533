-- what public clauses say
pub mod Edits
pub mod Spans
-- how maps are kept
pub mod Maps
pub mod Merge
pub mod Places
