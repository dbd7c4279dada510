-- What crates above name of `history_model`.
pub use Rattle.connection_laws.specs.history_model.History
pub use Rattle.connection_laws.specs.history_model.HistoryLaws
pub use Rattle.connection_laws.specs.history_model.LimitLaws
pub use Rattle.connection_laws.specs.history_model.Operations
pub use Rattle.connection_laws.specs.history_model.declared
pub use Rattle.session_core.specs.history_model.Lines
