-- What proofs of crates above name of `store_machine`.
pub use Rattle.connection.specs.store_machine_for_proofs.contracts
