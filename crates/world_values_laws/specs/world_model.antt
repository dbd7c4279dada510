-- What crates above name of `world_model`.
pub use Rattle.world_model.specs.Store
