pub mod LookLaws
pub mod VerdictLaws
pub mod ExistenceLaws
pub mod ClosedLaws
pub mod PatternLaws
