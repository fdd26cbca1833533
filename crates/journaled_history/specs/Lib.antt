-- what public clauses say
pub mod Puts
