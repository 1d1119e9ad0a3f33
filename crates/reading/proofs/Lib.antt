pub mod TooMany
pub mod Refusals
pub mod TwoQuestions
pub mod NameKeys
pub mod Gathering
pub mod FreeLists
