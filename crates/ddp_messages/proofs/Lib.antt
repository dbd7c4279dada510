pub mod Each
pub mod PlaceLaws
pub mod PlainLaws
