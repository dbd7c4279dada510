-- What crates above name of `world_rounds_laws`.
pub use Rattle.world_rounds_laws.specs.Visits
pub use Rattle.world_rounds_laws.specs.VisitsLaws
