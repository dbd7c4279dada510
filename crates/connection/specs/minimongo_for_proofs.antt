-- What proofs of crates above name of `minimongo`.
pub use Rattle.minimongo.specs.contracts
