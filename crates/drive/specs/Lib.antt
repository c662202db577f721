pub use Rattle.command_line.specs.Exits
pub mod ByHand
pub mod Replies
