pub mod Pending
pub mod Views
pub mod PendingLaws
pub mod ViewLaws
