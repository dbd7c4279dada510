pub mod Matching
pub mod News
pub mod Nets
pub mod Answers
pub mod Elsewhere
pub mod Plans
pub mod InOrder
