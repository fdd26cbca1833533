-- what public clauses say
pub mod Visitors
pub mod Desks
pub mod Undoing
-- ---- what private functions say
pub mod Sights
