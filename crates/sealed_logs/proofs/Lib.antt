pub mod Exclusive
pub mod States
pub mod Bases
pub mod Runs
pub mod Splits
pub mod Seals
pub mod Growing
pub mod Laters
