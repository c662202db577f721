pub mod Cut
pub mod Blank
pub mod Name
pub mod Line
pub mod Label
pub mod Operand
pub mod Number
