pub mod Files
pub mod Slashes
pub mod Chains
pub mod Lists
pub mod Speeches
pub mod Hearings
pub mod Givings
pub mod Cycles
