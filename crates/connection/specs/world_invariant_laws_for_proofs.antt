-- What proofs of crates above name of `world_invariant_laws`.
pub use Rattle.connection_laws.specs.world_invariant_laws_for_proofs.Worlds
pub use Rattle.connection_laws.specs.world_invariant_laws_for_proofs.WorldsLaws
