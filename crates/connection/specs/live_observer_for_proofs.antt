-- What proofs of crates above name of `live_observer`.
pub use Rattle.session_core.specs.live_observer_for_proofs.contracts
