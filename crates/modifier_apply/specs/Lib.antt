pub mod Change
pub mod Coding
pub mod Modified
pub mod Neighbours
pub mod NeighboursLaws
pub mod Reading
pub mod View
