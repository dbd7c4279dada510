pub mod Rules
pub mod App
pub mod Fields
pub mod Sorting
pub mod Reading
pub mod Distinct
