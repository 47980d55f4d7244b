pub mod Kinds
pub mod Accepted
pub mod Numbers
pub mod Laws
