-- What proofs of crates above name of `publication`.
pub use Rattle.session_core.specs.publication_for_proofs.contracts
