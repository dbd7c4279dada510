pub mod Captures
pub mod Values
pub mod Store
