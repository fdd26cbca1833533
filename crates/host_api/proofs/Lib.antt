pub mod JoinedTexts
pub mod LastPlaces
mod MethodNames
mod DeployTexts
mod NumberTexts
pub mod Cuts
mod Fitting
pub mod PathTexts
mod ObjectBodies
mod ListedFiles
mod LawfulListings
mod SortedFiles
pub mod RoutesTaken
