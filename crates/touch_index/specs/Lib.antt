-- under which keys a change is posted, and what is found there
pub mod Keys
pub mod Postings
pub mod PostingOrder
pub mod Next
pub mod Found
