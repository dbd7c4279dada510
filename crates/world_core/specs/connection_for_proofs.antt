-- What proofs of crates above name of `connection`.
pub use Rattle.connection.specs.contracts
