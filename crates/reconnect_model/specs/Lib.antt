pub mod Revival
pub mod Saying
pub mod Giving
pub mod History
pub mod RevivalLaws
