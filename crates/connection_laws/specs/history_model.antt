-- What crates above name of `history_model`.
pub use Rattle.world_invariant_laws.specs.history_model.History
pub use Rattle.world_invariant_laws.specs.history_model.HistoryLaws
pub use Rattle.world_invariant_laws.specs.history_model.LimitLaws
pub use Rattle.world_invariant_laws.specs.history_model.Operations
pub use Rattle.world_invariant_laws.specs.history_model.declared
