-- what public clauses say
pub mod Orders
pub mod Logs
