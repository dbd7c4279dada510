-- What proofs of crates above name of `session_core`.
pub use Rattle.session_core.specs.contracts
