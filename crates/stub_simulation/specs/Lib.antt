pub mod KeySets
pub mod Naming
pub mod Simulating
pub mod Drafts
