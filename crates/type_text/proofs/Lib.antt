pub mod Tokens
pub mod Lengths
pub mod Growing
pub mod Printing
pub mod Admitting
pub mod Examples
