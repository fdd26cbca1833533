-- what clauses say of clients that are accepted
pub mod Accepting
