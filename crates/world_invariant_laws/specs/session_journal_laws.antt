-- What crates above name of `session_journal_laws`.
pub use Rattle.session_journal_laws.specs.Appending
pub use Rattle.session_journal_laws.specs.Blocking
pub use Rattle.session_journal_laws.specs.BlockingLaws
pub use Rattle.session_journal_laws.specs.Counts
pub use Rattle.session_journal_laws.specs.CountsLaws
pub use Rattle.session_journal_laws.specs.Longer
pub use Rattle.session_journal_laws.specs.LongerLaws
pub use Rattle.session_journal_laws.specs.PublicationLaws
pub use Rattle.session_journal_laws.specs.Shows
pub use Rattle.session_journal_laws.specs.Taken
