-- What crates above name of `client_core`.
pub use Rattle.connection.specs.client_core.State
