pub mod Conversions
pub mod Letters
pub mod Codes
pub mod Trees
