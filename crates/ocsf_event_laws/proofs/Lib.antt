pub mod Found
pub mod Sound
pub mod Constraints
pub mod Recursion
pub mod Events
