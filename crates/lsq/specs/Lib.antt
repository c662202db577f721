pub mod Bytes
pub mod Entries
pub mod LoadRule
pub mod LastStores
