pub mod Alone
mod Misses
mod Outcomes
mod SharedHolds
pub mod LoneReads
pub mod CachedChunks
pub mod Pieces
pub mod KeptReads
