-- what public clauses say
pub mod Lists
