pub mod Gains
pub mod Noted
pub mod Code
pub mod ByCode
pub mod Walk
pub mod Answer
pub mod InOrder
pub mod ViolationOrder
