-- What proofs of crates above name of `session_state`.
pub use Rattle.session_state.specs.contracts
