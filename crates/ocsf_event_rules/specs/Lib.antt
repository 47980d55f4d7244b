pub mod Profiles
pub mod EventClass
pub mod Conditions
pub mod Allowed
pub mod Judged
pub mod Wrong
pub mod Violations
pub mod EventLaws
