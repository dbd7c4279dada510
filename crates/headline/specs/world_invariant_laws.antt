-- What crates above name of `world_invariant_laws`.
pub use Rattle.world_invariant_laws.specs.Begun
pub use Rattle.world_invariant_laws.specs.Lift
pub use Rattle.world_invariant_laws.specs.Links
pub use Rattle.world_invariant_laws.specs.LinksLaws
pub use Rattle.world_invariant_laws.specs.Session
pub use Rattle.world_invariant_laws.specs.SessionLaws
