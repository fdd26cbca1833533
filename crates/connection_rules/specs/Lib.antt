-- when a connection is late
pub mod Paces
-- how much moved of late
pub mod Recent
-- how many bytes bodies and replies hold
pub mod Holding
-- which one has the least number
pub mod Least
-- which one goes first
pub mod Standings
