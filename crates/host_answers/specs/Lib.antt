-- what a house is, and what is answered by its calls
pub mod Houses
pub mod Answers
-- what is read of a house
pub mod Asking
pub mod Deploys
pub mod ChangeLists
pub mod Reads
-- what the reply to the reading of a file says of the file itself
pub mod FileReplies
