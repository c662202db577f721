pub mod Snapshots
pub mod Rules
