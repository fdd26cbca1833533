-- what public clauses say
pub mod Sealing
pub mod Later
