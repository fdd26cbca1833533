pub mod Sending
pub mod Taken
pub mod Failing
