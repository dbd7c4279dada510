-- What crates above name of `history_log`.
pub use Rattle.session_core.specs.history_log.Entries
pub use Rattle.session_core.specs.history_log.declared
