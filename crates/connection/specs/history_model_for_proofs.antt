-- What proofs of crates above name of `history_model`.
pub use Rattle.connection_laws.specs.history_model_for_proofs.contracts
