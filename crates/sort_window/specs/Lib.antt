pub mod Sorting
pub mod SortingLaws
pub mod Shown
pub mod Windows
pub mod Inside
pub mod Drafts
pub mod Coding
pub mod Telling
