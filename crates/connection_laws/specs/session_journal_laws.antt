-- What crates above name of `session_journal_laws`.
pub use Rattle.session_laws.specs.session_journal_laws.Resolved
pub use Rattle.session_laws.specs.session_journal_laws.Stands
pub use Rattle.world_invariant_laws.specs.session_journal_laws.PublicationLaws
pub use Rattle.world_invariant_laws.specs.session_journal_laws.Shows
