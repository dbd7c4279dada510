-- What proofs of crates above name of `live_observer`.
pub use Rattle.connection.specs.live_observer_for_proofs.contracts
