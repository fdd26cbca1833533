-- what public clauses say
pub mod Numbers
pub mod Targets
pub mod Fits
pub mod Methods
pub mod Routes
pub mod Bodies
pub mod Refusals
pub mod ChangeLines
pub mod Texts
pub mod Types
pub mod Limits
-- what only private functions need
pub mod Patterns
pub mod DeployStates
