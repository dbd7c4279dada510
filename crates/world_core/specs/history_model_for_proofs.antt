-- What proofs of crates above name of `history_model`.
pub use Rattle.connection.specs.history_model_for_proofs.contracts
