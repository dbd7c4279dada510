-- What proofs of crates above name of `client_core`.
pub use Rattle.client_core.specs.contracts
