pub mod Taking
pub mod Asking
pub mod Differences
