pub mod Tower
pub mod Rounds
pub mod TowerLaws
pub mod RoundLaws
