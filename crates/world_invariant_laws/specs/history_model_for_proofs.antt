-- What proofs of crates above name of `history_model`.
pub use Rattle.world_model.specs.history_model_for_proofs.contracts
