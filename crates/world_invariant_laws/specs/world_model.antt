-- What crates above name of `world_model`.
pub use Rattle.world_model.specs.Acts
pub use Rattle.world_model.specs.Asks
pub use Rattle.world_model.specs.Conn
pub use Rattle.world_model.specs.Events
pub use Rattle.world_model.specs.Headline
pub use Rattle.world_model.specs.Lines
pub use Rattle.world_model.specs.Settle
pub use Rattle.world_model.specs.Store
pub use Rattle.world_model.specs.StoreLaws
pub use Rattle.world_model.specs.World
pub use Rattle.world_model.specs.declared
