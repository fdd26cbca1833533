-- what public clauses say
pub mod NewDesks
pub mod Stops
pub mod Turns
pub mod Uploads
-- ---- what private functions say
pub mod Closings
