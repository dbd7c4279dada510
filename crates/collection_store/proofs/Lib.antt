pub mod Sums
pub mod Picked
pub mod Named
pub mod Passing
pub mod Leading
pub mod FirstFound
pub mod Updating
mod Inserted
