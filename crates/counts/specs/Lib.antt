pub mod Known
pub mod Reads
pub mod Rule
pub mod Seats
pub mod Shares
pub mod Steps
pub mod Totals
