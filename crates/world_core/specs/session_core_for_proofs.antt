-- What proofs of crates above name of `session_core`.
pub use Rattle.connection.specs.session_core_for_proofs.contracts
