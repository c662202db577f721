pub mod Splits
pub mod Tables
pub mod Runs
pub mod Numbers
pub mod Labels
pub mod Lines
pub mod Operands
pub mod Examples
