pub mod Youngest
pub mod LittleEndian
pub mod Changes
pub mod Taken
pub mod StoresLeft
pub mod LoadsRight
