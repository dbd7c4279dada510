-- What crates above name of `client_core`.
pub use Rattle.connection_laws.specs.client_core.Asked
pub use Rattle.connection_laws.specs.client_core.State
pub use Rattle.connection_laws.specs.client_core.Taken
pub use Rattle.connection_laws.specs.client_core.declared
