-- What proofs of crates above name of `history_model`.
pub use Rattle.history_model.specs.StoredLaws
pub use Rattle.history_model.specs.contracts
