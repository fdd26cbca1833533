-- what public clauses say
pub mod Slices
