-- What crates above name of `session_laws`.
pub use Rattle.session_laws.specs.Adding
pub use Rattle.session_laws.specs.Events
pub use Rattle.session_laws.specs.Keeping
pub use Rattle.session_laws.specs.Loading
pub use Rattle.session_laws.specs.LoadingLaws
pub use Rattle.session_laws.specs.Session
pub use Rattle.session_laws.specs.Showing
pub use Rattle.session_laws.specs.Storing
pub use Rattle.session_laws.specs.declared
