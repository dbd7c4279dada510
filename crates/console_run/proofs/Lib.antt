pub mod Keeping
pub mod Consoling
pub mod Asking
pub mod Watched
