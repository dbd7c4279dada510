pub mod Numbered
pub mod State
pub mod Faults
pub mod Asked
pub mod Taken
