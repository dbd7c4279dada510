pub mod Lanes
pub mod Lent
pub mod LentLaws
pub mod Names
pub mod TellingLaws
pub mod UnionsLaws
