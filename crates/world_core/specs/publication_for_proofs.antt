-- What proofs of crates above name of `publication`.
pub use Rattle.connection.specs.publication_for_proofs.contracts
