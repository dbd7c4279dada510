-- What proofs of crates above name of `store_machine`.
pub use Rattle.connection_laws.specs.store_machine_for_proofs.contracts
