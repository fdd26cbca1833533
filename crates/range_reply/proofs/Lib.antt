mod Occurrences
mod OneOfMany
mod Purity
mod Sent
mod HeldInTurn
mod Joined
pub mod Passing
pub mod Honest
mod Lending
