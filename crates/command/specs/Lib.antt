pub use Rattle.command_line.specs.Answered
pub use Rattle.command_line.specs.Exits
pub use Rattle.on_threads.specs.Answers
pub use Rattle.on_threads.specs.Runs
