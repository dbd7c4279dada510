-- What crates above name of `publication`.
pub use Rattle.world_model.specs.publication.Cursors
pub use Rattle.world_model.specs.publication.Published
pub use Rattle.world_model.specs.publication.declared
