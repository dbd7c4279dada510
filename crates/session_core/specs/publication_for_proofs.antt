-- What proofs of crates above name of `publication`.
pub use Rattle.session_laws.specs.publication_for_proofs.contracts
