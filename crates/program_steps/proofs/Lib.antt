pub mod Front
pub mod Extents
pub mod Short
