pub mod Fronts
pub mod Entering
pub mod FileReplies
pub mod KeptReplies
pub mod Standing
pub mod AllSeen
pub mod Running
