-- what public clauses say
pub mod PeerPlaces
pub mod Paths
pub mod Asking
pub mod Answers
pub mod Stages
pub mod Carrying
-- what the body of an answer says
pub mod Bodies
