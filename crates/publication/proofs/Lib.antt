pub mod Walks
pub mod QueryLaws
pub mod SortedPaths
pub mod Choosing
