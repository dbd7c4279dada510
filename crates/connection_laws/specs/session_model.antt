-- What crates above name of `session_model`.
pub use Rattle.world_invariant_laws.specs.session_model.Fits
pub use Rattle.world_invariant_laws.specs.session_model.Items
pub use Rattle.world_invariant_laws.specs.session_model.Moments
pub use Rattle.world_invariant_laws.specs.session_model.Publication
pub use Rattle.world_invariant_laws.specs.session_model.Shown
pub use Rattle.world_invariant_laws.specs.session_model.State
pub use Rattle.world_invariant_laws.specs.session_model.Subscriptions
pub use Rattle.world_invariant_laws.specs.session_model.declared
