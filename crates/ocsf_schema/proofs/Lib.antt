pub mod Joined
pub mod JoinedItems
pub mod Pieces
pub mod ValidFragments
