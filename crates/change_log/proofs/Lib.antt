pub mod Items
pub mod Resolving
pub mod BaseNames
pub mod Longer
