-- what public clauses say
pub mod Recent
pub mod Caches
pub mod Rules
pub mod Evictions
pub mod Calls
