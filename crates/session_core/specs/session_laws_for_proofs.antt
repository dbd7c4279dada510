-- What proofs of crates above name of `session_laws`.
pub use Rattle.session_laws.specs.Handled
pub use Rattle.session_laws.specs.Learning
pub use Rattle.session_laws.specs.LearningLaws
