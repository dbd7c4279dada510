pub mod Maps
pub mod Changes
pub mod Differences
pub mod Orders
pub mod MapLaws
pub mod ChangeLaws
pub mod DifferenceLaws
pub mod OrderLaws
