-- What proofs of crates above name of `history_log`.
pub use Rattle.session_core.specs.history_log_for_proofs.ToldLaws
pub use Rattle.session_core.specs.history_log_for_proofs.contracts
