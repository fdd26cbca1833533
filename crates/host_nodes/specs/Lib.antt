-- how a run ends
pub mod Ends
-- what a connection has done
pub mod Carried
-- which ports the nodes may have
pub mod Ports
