-- What crates above name of `world_invariant_laws`.
pub use Rattle.connection_laws.specs.world_invariant_laws.Lift
pub use Rattle.connection_laws.specs.world_invariant_laws.Links
pub use Rattle.connection_laws.specs.world_invariant_laws.LinksLaws
pub use Rattle.connection_laws.specs.world_invariant_laws.Session
pub use Rattle.connection_laws.specs.world_invariant_laws.SessionLaws
