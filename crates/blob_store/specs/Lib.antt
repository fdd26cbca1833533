-- what public clauses say
pub mod Files
pub mod Tables
pub mod Calls
pub mod Faults
pub mod Reads
pub mod Shelves
pub mod Openings
pub mod Keeping
pub mod Folders
pub mod FileCalls
pub mod FileFaults
pub mod Receipts
pub mod TemporaryNames
