pub mod First
pub mod Puts
