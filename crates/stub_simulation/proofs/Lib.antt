mod KeyRows
mod NamedRows
pub mod Overlay
pub mod Windows
pub mod Following
pub mod Meaning
pub mod Stepping
