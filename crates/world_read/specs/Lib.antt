-- what public clauses say
pub mod Requests
pub mod Taking
pub mod Reads
-- ---- what private functions say
pub mod Stages
