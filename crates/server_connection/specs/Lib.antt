pub mod Serving
pub mod AtRest
pub mod Looks
pub mod Ends
