pub mod Decimals
pub mod Edits
pub mod TextLengths
pub mod EditLines
pub mod ParseBack
