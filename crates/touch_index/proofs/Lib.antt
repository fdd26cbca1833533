pub mod Next
pub mod LookUps
pub mod Posted
pub mod Covered
pub mod Both
pub mod Folders
