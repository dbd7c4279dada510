pub mod Additions
pub mod Front
pub mod Neighbours
pub mod Paths
pub mod Walks
