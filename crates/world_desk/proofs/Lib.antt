pub mod Beginnings
pub mod Changing
pub mod Lawful
pub mod Undoing
