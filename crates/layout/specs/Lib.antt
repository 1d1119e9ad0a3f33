pub mod Readers
pub mod Groups
pub mod SymbolBytes
pub mod Files
pub mod Scans
