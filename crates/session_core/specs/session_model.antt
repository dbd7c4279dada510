-- What crates above name of `session_model`.
pub use Rattle.session_laws.specs.session_model.Counting
pub use Rattle.session_laws.specs.session_model.Fits
pub use Rattle.session_laws.specs.session_model.Items
pub use Rattle.session_laws.specs.session_model.Methods
pub use Rattle.session_laws.specs.session_model.Observers
pub use Rattle.session_laws.specs.session_model.Out
pub use Rattle.session_laws.specs.session_model.Publication
pub use Rattle.session_laws.specs.session_model.Shown
pub use Rattle.session_laws.specs.session_model.State
pub use Rattle.session_laws.specs.session_model.Subscriptions
pub use Rattle.session_laws.specs.session_model.Taking
pub use Rattle.session_laws.specs.session_model.Texts
