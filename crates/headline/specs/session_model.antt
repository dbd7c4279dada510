-- What crates above name of `session_model`.
pub use Rattle.world_invariant_laws.specs.session_model.Answering
pub use Rattle.world_invariant_laws.specs.session_model.Counting
pub use Rattle.world_invariant_laws.specs.session_model.Fits
pub use Rattle.world_invariant_laws.specs.session_model.Items
pub use Rattle.world_invariant_laws.specs.session_model.Kept
pub use Rattle.world_invariant_laws.specs.session_model.Methods
pub use Rattle.world_invariant_laws.specs.session_model.Moments
pub use Rattle.world_invariant_laws.specs.session_model.Out
pub use Rattle.world_invariant_laws.specs.session_model.Publication
pub use Rattle.world_invariant_laws.specs.session_model.Shown
pub use Rattle.world_invariant_laws.specs.session_model.State
pub use Rattle.world_invariant_laws.specs.session_model.Subscriptions
pub use Rattle.world_invariant_laws.specs.session_model.Taking
pub use Rattle.world_invariant_laws.specs.session_model.Texts
pub use Rattle.world_invariant_laws.specs.session_model.declared
