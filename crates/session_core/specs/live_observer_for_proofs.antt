-- What proofs of crates above name of `live_observer`.
pub use Rattle.session_laws.specs.live_observer_for_proofs.contracts
