pub mod LineLemmas
pub mod RunLemmas
pub mod FeedLemmas
pub mod CloseLemmas
pub mod ReadingLemmas
