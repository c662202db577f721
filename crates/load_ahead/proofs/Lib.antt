pub mod Flying
pub mod Turning
