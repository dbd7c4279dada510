-- What crates above name of `session_journal_laws`.
pub use Rattle.session_journal_laws.specs.Fired
pub use Rattle.session_journal_laws.specs.Resolved
pub use Rattle.session_journal_laws.specs.ResolvedLaws
pub use Rattle.session_journal_laws.specs.Stands
pub use Rattle.session_journal_laws.specs.declared
pub use Rattle.session_journal_laws.specs.Blocking
pub use Rattle.session_journal_laws.specs.BlockingLaws
