-- What crates above name of `history_model`.
pub use Rattle.world_model.specs.history_model.BegunLaws
pub use Rattle.world_model.specs.history_model.Bounds
pub use Rattle.world_model.specs.history_model.History
pub use Rattle.world_model.specs.history_model.HistoryLaws
pub use Rattle.world_model.specs.history_model.LimitLaws
pub use Rattle.world_model.specs.history_model.Operations
pub use Rattle.world_model.specs.history_model.RunsLaws
pub use Rattle.world_model.specs.history_model.declared
pub use Rattle.world_model.specs.history_model.Lines
