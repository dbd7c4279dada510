pub mod Batches
pub mod Sends
mod Told
pub mod Turns
