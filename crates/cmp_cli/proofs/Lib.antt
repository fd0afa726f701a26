pub mod WordLemmas
pub mod ReadingLemmas
pub mod NumberLemmas
pub mod ReportLemmas
pub mod LineLemmas
pub mod RunLemmas
