-- what public clauses say
pub mod Hashes
pub mod Points
pub mod Owners
pub mod Rings
