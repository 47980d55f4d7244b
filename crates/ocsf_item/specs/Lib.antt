pub mod Dictionary
pub mod Joined
pub mod Built
pub mod Assembled
