-- What crates above name of `publication`.
pub use Rattle.world_invariant_laws.specs.publication.Cursors
pub use Rattle.world_invariant_laws.specs.publication.Published
pub use Rattle.world_invariant_laws.specs.publication.declared
