-- What crates above name of `client_core`.
pub use Rattle.client_core.specs.Asked
pub use Rattle.client_core.specs.State
pub use Rattle.client_core.specs.Taken
pub use Rattle.client_core.specs.declared
