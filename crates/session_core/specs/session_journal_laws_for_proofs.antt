-- What proofs of crates above name of `session_journal_laws`.
pub use Rattle.session_laws.specs.session_journal_laws_for_proofs.FiredLaws
