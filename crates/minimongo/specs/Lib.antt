pub mod Originals
pub mod OriginalLaws
pub mod Index
pub mod Taking
pub mod Faults
pub mod Finding
pub mod Restored
pub mod State
