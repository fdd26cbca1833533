pub mod Lists
pub mod Later
pub mod Reached
pub mod Changing
