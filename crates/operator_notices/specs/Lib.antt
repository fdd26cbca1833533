-- what public clauses say
pub mod Kinds
pub mod Texts
pub mod Waiting
