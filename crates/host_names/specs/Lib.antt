-- what public clauses say
pub mod Name
pub mod Path
pub mod Folders
pub mod Hex
pub mod Digests
pub mod Cells
-- what the comparisons of cells show of their order
pub mod CellOrder
