mod Counted
mod Found
mod Newcomers
