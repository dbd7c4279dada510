-- What crates above name of `world_values_laws`.
pub use Rattle.headline.specs.world_values_laws.Values
