-- What proofs of crates above name of `world_model`.
pub use Rattle.connection_laws.specs.world_model_for_proofs.contracts
