pub mod Folds
pub mod MergedLists
pub mod Rows
pub mod TablesByName
