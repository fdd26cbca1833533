mod Numbered
mod Owned
pub mod Placed
