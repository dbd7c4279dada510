pub mod Projected
pub mod Parts
pub mod Faults
pub mod Cursors
pub mod DistinctLaws
pub mod Published
pub mod Ordered
pub mod Putting
