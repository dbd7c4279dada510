pub mod State
pub mod Copies
pub mod Last
pub mod Asking
pub mod Hearing
pub mod Speaking
pub mod Faithful
