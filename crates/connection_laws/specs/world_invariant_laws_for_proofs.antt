-- What proofs of crates above name of `world_invariant_laws`.
pub use Rattle.world_invariant_laws.specs.Worlds
pub use Rattle.world_invariant_laws.specs.WorldsLaws
