-- What proofs of crates above name of `world_model`.
pub use Rattle.connection.specs.world_model_for_proofs.contracts
