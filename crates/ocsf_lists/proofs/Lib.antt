pub mod FirstOfEach
pub mod Givens
pub mod Leasts
pub mod NameLists
