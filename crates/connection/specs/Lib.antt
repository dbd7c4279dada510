pub mod Printed
pub mod PrintedLaws
pub mod Kept
pub mod Answers
pub mod Storing
pub mod Asks
pub mod Acting
pub mod Named
pub use Rattle.connection.specs.contracts.connection.Connection as connection_row
pub use Rattle.connection.specs.contracts.link.Link as link_row
pub use Rattle.connection.specs.contracts.side.Side as side_row
-- what lies below, for the crates above
pub mod client_core
pub mod client_core_for_proofs
pub mod connection_laws
pub mod connection_laws_for_proofs
pub mod world_model
pub mod world_model_for_proofs
pub mod history_log
pub mod history_log_for_proofs
pub mod history_model
pub mod history_model_for_proofs
pub mod session_model
pub mod world_invariant_laws
pub mod world_invariant_laws_for_proofs
pub mod live_observer_for_proofs
pub mod minimongo
pub mod minimongo_for_proofs
pub mod publication
pub mod publication_for_proofs
pub mod session_core
pub mod session_core_for_proofs
pub mod session_laws
pub mod session_state
pub mod session_state_for_proofs
pub mod store_machine
pub mod store_machine_for_proofs
