-- what public clauses say
pub mod Open
pub mod Flights
pub mod Calls
