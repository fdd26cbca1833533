-- what public clauses say
pub mod Bases
pub mod Logs
pub mod Appending
-- how names are kept, and where they are
pub mod Items
pub mod SpanOfAll
-- whether names may be a base, and what they write
pub mod Founding
