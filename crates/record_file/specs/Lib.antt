-- a file of records, and two slots of which one has it
pub mod Frames
pub mod Settled
pub mod Walks
pub mod Ahead
pub mod Openings
pub mod Failures
pub mod Slots
pub mod Pairs
