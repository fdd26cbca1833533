mod AroundGates
pub mod Steps
pub mod PutSteps
mod ReadParts
pub mod NotWhole
mod WalkSteps
mod ReadsAhead
mod MendSteps
pub mod OneWalk
pub mod OneAnswer
pub mod LookSteps
pub mod OpenSteps
mod SlotSteps
mod Brought
pub mod PairSteps
pub mod OneRead
