-- What proofs of crates above name of `publication`.
pub use Rattle.publication.specs.contracts
