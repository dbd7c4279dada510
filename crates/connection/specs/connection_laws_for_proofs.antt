-- What proofs of crates above name of `connection_laws`.
pub use Rattle.connection_laws.specs.Learning
pub use Rattle.connection_laws.specs.Receiving
pub use Rattle.connection_laws.specs.Showing
