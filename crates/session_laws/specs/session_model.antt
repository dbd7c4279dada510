-- What crates above name of `session_model`.
pub use Rattle.session_model.specs.Counting
pub use Rattle.session_model.specs.Fits
pub use Rattle.session_model.specs.Items
pub use Rattle.session_model.specs.Methods
pub use Rattle.session_model.specs.Observers
pub use Rattle.session_model.specs.Out
pub use Rattle.session_model.specs.Publication
pub use Rattle.session_model.specs.Shown
pub use Rattle.session_model.specs.State
pub use Rattle.session_model.specs.Subscriptions
pub use Rattle.session_model.specs.Taking
pub use Rattle.session_model.specs.Texts
pub use Rattle.session_model.specs.declared
