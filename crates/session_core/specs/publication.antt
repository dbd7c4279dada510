-- What crates above name of `publication`.
pub use Rattle.session_laws.specs.publication.Cursors
pub use Rattle.session_laws.specs.publication.Published
