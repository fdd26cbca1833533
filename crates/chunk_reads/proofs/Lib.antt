mod ReadInTurn
pub mod Alike
pub mod Turns
pub mod Backwards
