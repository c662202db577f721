pub use Rattle.command_line.specs.Answered
pub use Rattle.command_line.specs.Exits
pub mod Answers
pub mod Holds
pub mod Runs
pub mod Threads
