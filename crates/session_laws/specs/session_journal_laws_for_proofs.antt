-- What proofs of crates above name of `session_journal_laws`.
pub use Rattle.session_journal_laws.specs.FiredLaws
