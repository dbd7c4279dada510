-- What proofs of crates above name of `session_state`.
pub use Rattle.connection.specs.session_state_for_proofs.contracts
