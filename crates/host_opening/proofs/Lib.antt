pub mod InTurn
pub mod Needed
pub mod Replayed
pub mod Taken
pub mod Wanting
