-- what public clauses say
pub mod Conditions
pub mod Plans
pub mod Multipart
pub mod Slices
pub mod Boundaries
pub mod Bodies
pub mod PartTexts
pub mod Holding
pub mod Sending
-- what the functions that look for bytes say of each other
pub mod Searches
