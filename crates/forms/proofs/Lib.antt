pub mod Skipping
pub mod Tokens
pub mod EntrySteps
pub mod FormSteps
pub mod Outlining
