mod DataLines
mod Faithful
mod Padding
