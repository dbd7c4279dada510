-- What proofs of crates above name of `headline`.
pub use Rattle.world_laws.specs.headline_for_proofs.Worlds
pub use Rattle.world_laws.specs.headline_for_proofs.WorldsLaws
pub use Rattle.world_laws.specs.headline_for_proofs.PoliteWorlds
pub use Rattle.world_laws.specs.headline_for_proofs.PoliteWorldsLaws
