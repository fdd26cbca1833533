-- what public clauses say
pub mod Timing
pub mod HeadText
pub mod Requests
pub mod Fields
pub mod Wires
pub mod Halting
pub mod Sending
pub mod Gathering
pub mod FieldTexts
pub mod EntityTags
pub mod Replies
pub mod Connections
pub mod Expectations
pub mod Answers
pub mod AnswerReads
-- what the functions that find the end of a head say of each other
pub mod Scanning
