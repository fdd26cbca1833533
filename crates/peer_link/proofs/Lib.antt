pub mod Asking
pub mod PathStarts
pub mod AnswerTexts
pub mod Answering
pub mod Served
pub mod Carried
pub mod Leading
