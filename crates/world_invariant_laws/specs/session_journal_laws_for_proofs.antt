-- What proofs of crates above name of `session_journal_laws`.
pub use Rattle.session_journal_laws.specs.Fences
pub use Rattle.session_journal_laws.specs.FencesLaws
pub use Rattle.session_journal_laws.specs.Readable
pub use Rattle.session_journal_laws.specs.ReadableLaws
