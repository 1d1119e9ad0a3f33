pub mod Faults
pub mod Conversions
pub mod Labels
pub mod Kinds
pub mod Names
pub mod Arguments
pub mod Trees
pub mod Rules
