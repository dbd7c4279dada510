pub mod Index
pub mod State
pub mod Slots
pub mod Words
pub mod Inside
pub mod StateCoding
