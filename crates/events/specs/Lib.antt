pub mod Lines
pub mod Following
pub mod Told
pub mod Denied
pub mod Logs
pub mod Items
pub mod Text
pub mod Placed
