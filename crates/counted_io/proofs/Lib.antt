mod Moved
pub mod Replied
