-- what public clauses say
pub mod Serving
pub mod Again
pub mod Wordings
pub mod Timing
pub mod Stopping
pub mod Phases
pub mod Carrying
pub mod Walks
pub mod Stages
pub mod Resting
pub mod Metering
pub mod Advancing
pub mod StandingIn
