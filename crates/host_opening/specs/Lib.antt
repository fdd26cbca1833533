-- What public clauses say.
pub mod WantedFiles
pub mod Replays
-- What private functions say.
pub mod Needs
