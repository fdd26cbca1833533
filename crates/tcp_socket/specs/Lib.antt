-- what public clauses say
pub mod Trails
