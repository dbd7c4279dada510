-- What crates above name of `session_model`.
pub use Rattle.session_core.specs.session_model.Counting
pub use Rattle.session_core.specs.session_model.Methods
pub use Rattle.session_core.specs.session_model.Observers
pub use Rattle.session_core.specs.session_model.State
pub use Rattle.session_core.specs.session_model.Subscriptions
pub use Rattle.session_core.specs.session_model.Taking
