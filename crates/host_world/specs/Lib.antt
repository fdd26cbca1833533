-- what public clauses say
pub mod Worlds
pub mod Steps
pub mod Lawful
-- ---- what private functions say
pub mod Visits
