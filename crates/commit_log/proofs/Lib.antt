mod Hashing
mod LogKept
mod Replied
mod WordFound
