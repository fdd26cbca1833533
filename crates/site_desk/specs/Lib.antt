-- what public clauses say
pub mod Snaps
pub mod Stocks
pub mod Seats
pub mod Books
pub mod Answers
