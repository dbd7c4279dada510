-- What crates above name of `world_values_laws`.
pub use Rattle.world_laws.specs.world_values_laws.Values
