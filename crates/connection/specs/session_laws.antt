-- What crates above name of `session_laws`.
pub use Rattle.session_core.specs.session_laws.Events
pub use Rattle.session_core.specs.session_laws.Session
pub use Rattle.session_core.specs.session_laws.declared
