pub mod Statuses
pub mod Listings
