-- what public clauses say
pub mod Asks
pub mod Understood
pub mod Chosen
-- what the functions that read a value say of each other
pub mod Reading
