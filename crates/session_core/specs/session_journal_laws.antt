-- What crates above name of `session_journal_laws`.
pub use Rattle.session_laws.specs.session_journal_laws.Fired
pub use Rattle.session_laws.specs.session_journal_laws.Stands
pub use Rattle.session_laws.specs.session_journal_laws.declared
pub use Rattle.session_laws.specs.session_journal_laws.Blocking
pub use Rattle.session_laws.specs.session_journal_laws.BlockingLaws
