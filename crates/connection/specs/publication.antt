-- What crates above name of `publication`.
pub use Rattle.session_core.specs.publication.Published
