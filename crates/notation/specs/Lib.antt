pub mod Decimals
pub mod Texts
pub mod ArgumentTexts
pub mod Edits
pub mod EditAnswers
