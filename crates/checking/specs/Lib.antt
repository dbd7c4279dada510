pub mod Input
pub mod InputLaws
pub mod Output
pub mod Walk
pub mod WalkLaws
pub mod Check
