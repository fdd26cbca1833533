pub mod HexText
pub mod Folders
