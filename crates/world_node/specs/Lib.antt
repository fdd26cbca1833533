-- what public clauses say
pub mod Nodes
pub mod Lawful
pub mod Tables
-- ---- what private functions say
pub mod Handlers
