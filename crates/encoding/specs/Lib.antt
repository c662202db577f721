pub mod Fields
pub mod Layouts
pub mod Words
pub mod Laws
