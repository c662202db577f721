pub mod Answering
pub mod AsAlone
pub mod Ended
mod ThreadAnswers
mod WholeRuns
