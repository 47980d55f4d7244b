pub mod Matches
pub mod Readings
pub mod Held
pub mod Reads
