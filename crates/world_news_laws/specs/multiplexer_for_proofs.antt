-- What proofs of crates above name of `multiplexer`.
pub use Rattle.multiplexer.specs.BetweenLaws
pub use Rattle.multiplexer.specs.Lending
pub use Rattle.multiplexer.specs.LendingLaws
