pub mod Standings
pub mod Beginnings
pub mod Operating
pub mod Machines
pub mod Steppings
pub mod Nexts
pub mod Lasts
