-- What proofs of crates above name of `minimongo`.
pub use Rattle.connection.specs.minimongo_for_proofs.contracts
