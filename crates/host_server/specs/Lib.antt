-- what a host has, and what changes it
pub mod Hosts
pub mod Readiness
pub mod Journals
pub mod Entries
pub mod Reasons
pub mod Outcomes
pub mod PublishedDeploys
pub mod HeldUp
-- what is shown of its deploys
pub mod Shown
-- what is answered, and what a connection and a run of the program do
pub mod Files
pub mod ServerJournals
pub mod Storing
pub mod Asks
pub mod ReadBack
pub mod Openings
pub mod OpeningLines
pub mod Solo
-- what the calls of a server do, as those of a house
pub mod ServerHouses
-- what stays of a host, step by step, and to what no body is sent
pub mod Growth
pub mod Withheld
