-- What proofs of crates above name of `store_machine`.
pub use Rattle.store_machine.specs.contracts
