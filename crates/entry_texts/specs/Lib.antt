-- the text of an entry
pub mod Spells
pub mod Reading
-- which of them a file may have, by its version
pub mod Versions
