pub mod Effects
pub mod Differences
pub mod Merging
pub mod Composing
pub mod Deciding
pub mod Patches
pub mod Listings
pub mod PathLists
-- what one command writes, by law
pub mod ReadsAndWrites
pub mod FolderMoves
pub mod Fitting
pub mod NamedAliases
pub mod SameFiles
pub mod Uploading
mod Comparing
pub mod Deploys
pub mod Drafts
mod SitesTouched
pub mod Ranges
-- all laws of each command, and what follows of them
pub mod CommandLaws
pub mod Locality
pub mod OfKind
pub mod Named
pub mod LeftOut
pub mod Growing
pub mod MoreUploads
pub mod UploadedRuns
pub mod Touching
pub mod Leaving
