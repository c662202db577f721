pub use Rattle.command_line.specs.Exits
pub mod Words
pub mod Hashes
pub mod Lines
pub mod Logs
pub mod Steps
