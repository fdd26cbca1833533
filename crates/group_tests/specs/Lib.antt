-- what the tests' own sources and links claim
pub mod Sources
