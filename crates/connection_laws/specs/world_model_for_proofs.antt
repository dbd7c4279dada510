-- What proofs of crates above name of `world_model`.
pub use Rattle.world_invariant_laws.specs.world_model_for_proofs.contracts
