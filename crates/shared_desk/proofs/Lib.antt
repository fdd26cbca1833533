mod Standing
pub mod Crossing
