-- What crates above name of `session_laws`.
pub use Rattle.session_laws.specs.Differences
pub use Rattle.session_laws.specs.Events
pub use Rattle.session_laws.specs.Loading
pub use Rattle.session_laws.specs.LoadingLaws
pub use Rattle.session_laws.specs.Meaning
pub use Rattle.session_laws.specs.Session
