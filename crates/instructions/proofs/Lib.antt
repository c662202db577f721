pub mod Histories
pub mod WideProducts
pub mod Quotients
pub mod Words
