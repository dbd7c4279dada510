pub mod Queue
pub mod Faults
pub mod Kept
