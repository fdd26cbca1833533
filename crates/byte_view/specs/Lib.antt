-- what public clauses say
pub mod BodyParts
pub mod Contents
pub mod Cuts
pub mod Parts
pub mod Holds
pub mod Marks
pub mod Views
