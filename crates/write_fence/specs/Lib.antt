pub mod Fences
pub mod Index
