-- what public clauses say
pub mod Reading
