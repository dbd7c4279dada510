pub mod Members
pub mod Turns
pub mod Lists
pub mod Exits
pub mod Found
pub mod Fields
pub mod WritingTurns
pub mod TextLaws
mod WriterTurns
pub mod TokenTurns
pub mod PlainTurns
