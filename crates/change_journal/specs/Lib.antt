-- what public clauses say
pub mod Texts
pub mod Files
pub mod Faults
pub mod Held
