-- What proofs of crates above name of `client_core`.
pub use Rattle.connection_laws.specs.client_core_for_proofs.contracts
