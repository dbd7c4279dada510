pub mod Lines
pub mod Run
pub mod Kept
pub mod KeptLaws
