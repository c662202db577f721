pub use Rattle.answers.specs.Answer
pub mod Runs
