pub mod Groups
pub mod SymbolBytes
pub mod Prefixes
pub mod Forests
pub mod Scans
