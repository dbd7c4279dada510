-- What crates above name of `world_model`.
pub use Rattle.connection_laws.specs.world_model.Acts
pub use Rattle.connection_laws.specs.world_model.Asks
pub use Rattle.connection_laws.specs.world_model.Conn
pub use Rattle.connection_laws.specs.world_model.Events
pub use Rattle.connection_laws.specs.world_model.Headline
pub use Rattle.connection_laws.specs.world_model.Lines
pub use Rattle.connection_laws.specs.world_model.Settle
pub use Rattle.connection_laws.specs.world_model.Store
pub use Rattle.connection_laws.specs.world_model.World
pub use Rattle.connection_laws.specs.world_model.declared
