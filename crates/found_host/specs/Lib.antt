-- what public clauses say
pub mod Remains
pub mod Openings
