pub mod Configured
pub mod Deeds
pub mod Gathering
pub mod Hinting
pub mod Turns
pub mod Units
