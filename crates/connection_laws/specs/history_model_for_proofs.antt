-- What proofs of crates above name of `history_model`.
pub use Rattle.world_invariant_laws.specs.history_model_for_proofs.contracts
