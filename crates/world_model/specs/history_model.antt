-- What crates above name of `history_model`.
pub use Rattle.history_model.specs.BegunLaws
pub use Rattle.history_model.specs.Bounds
pub use Rattle.history_model.specs.History
pub use Rattle.history_model.specs.HistoryLaws
pub use Rattle.history_model.specs.LimitLaws
pub use Rattle.history_model.specs.Operations
pub use Rattle.history_model.specs.RunsLaws
pub use Rattle.history_model.specs.declared
pub use Rattle.history_model.specs.Lines
