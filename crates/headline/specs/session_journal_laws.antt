-- What crates above name of `session_journal_laws`.
pub use Rattle.world_invariant_laws.specs.session_journal_laws.Blocking
pub use Rattle.world_invariant_laws.specs.session_journal_laws.BlockingLaws
pub use Rattle.world_invariant_laws.specs.session_journal_laws.Counts
pub use Rattle.world_invariant_laws.specs.session_journal_laws.CountsLaws
