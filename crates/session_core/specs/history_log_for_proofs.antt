-- What proofs of crates above name of `history_log`.
pub use Rattle.history_log.specs.ToldLaws
pub use Rattle.history_log.specs.contracts
