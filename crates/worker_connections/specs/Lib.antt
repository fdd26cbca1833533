-- what a step came to
pub mod Steps
-- what a connection is between two events
pub mod Clients
-- which places they have, and what an event makes of them
pub mod Places
-- what is kept of each
pub mod Connections
-- what the workers of a node share
pub mod Shares
