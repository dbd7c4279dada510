pub mod Client
pub mod Taking
pub mod Asking
pub mod Showing
pub mod Lines
pub mod CallLaws
pub mod HeldLaws
pub mod TakingLaws
