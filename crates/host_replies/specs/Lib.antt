-- what public clauses say
pub mod Replies
pub mod PartsTypes
pub mod SentFiles
-- what is answered to a request for a file
pub mod Versions
pub mod FileAsks
-- what the values of the code mean
pub mod Bodies
-- what a reply holds of a file
pub mod HeldFiles
