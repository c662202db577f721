-- Progress: a unit goes on until it has ended, and a history has at most nine acts for each let.
pub mod Work
pub mod Heights
pub mod Climbs
pub mod Supplied
pub mod Going
pub mod Letting
pub mod Outlooks
