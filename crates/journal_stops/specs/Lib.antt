-- what public clauses say
pub mod Boots
