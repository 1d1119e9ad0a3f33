pub mod GivenTypings
pub mod Meters
