pub mod Ways
pub mod Rings
pub mod NamedLaws
