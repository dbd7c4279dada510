mod Special
pub mod Words
pub mod Walks
pub mod PutAll
pub mod Branching
pub mod Ranges
pub mod Places
pub mod Moves
pub mod Edits
pub mod Puts
pub mod Sizes
pub mod Plain
pub mod Built
