pub mod TypeTexts
pub mod Prints
