pub mod Numbers
pub mod Skips
pub mod Outlines
