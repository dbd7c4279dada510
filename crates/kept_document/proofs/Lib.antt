pub mod Alone
pub mod Beside
pub mod KeptAfter
pub mod Once
pub mod Places
pub mod Puts
pub mod Telling
pub mod Walks
