-- What proofs of crates above name of `client_core`.
pub use Rattle.connection.specs.client_core_for_proofs.contracts
