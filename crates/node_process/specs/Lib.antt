-- what clauses say of the lines of the operator, and of calls that are made again
pub mod Lines
pub mod Repeats
