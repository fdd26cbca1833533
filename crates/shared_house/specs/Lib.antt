-- what public clauses say
pub mod Seeing
pub mod Sights
pub mod Entering
pub mod Desks
pub mod Shared
pub mod Guests
pub mod Kept
pub mod Running
-- ---- what the house's calls do, and the laws of that
pub mod Houses
pub mod HouseLaws
pub mod GuestLaws
