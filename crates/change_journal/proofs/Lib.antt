pub mod Entrywise
mod HeldLawful
mod HeldLists
mod JournalSteps
mod OpenedJournals
