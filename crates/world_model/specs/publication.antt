-- What crates above name of `publication`.
pub use Rattle.publication.specs.Cursors
pub use Rattle.publication.specs.Published
pub use Rattle.publication.specs.declared
