-- What crates above name of `history_log`.
pub use Rattle.history_log.specs.Entries
pub use Rattle.history_log.specs.declared
