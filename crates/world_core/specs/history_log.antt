-- What crates above name of `history_log`.
pub use Rattle.connection.specs.history_log.Entries
