pub mod Hearing
pub mod Giving
pub mod Parts
pub mod HistoryLaws
