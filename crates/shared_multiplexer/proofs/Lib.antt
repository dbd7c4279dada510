pub mod Lists
pub mod Lends
