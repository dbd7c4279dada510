-- What proofs of crates above name of `world_values_laws`.
pub use Rattle.world_values_laws.specs.MomentValues
