-- What crates above name of `store_machine`.
pub use Rattle.connection_laws.specs.store_machine.State
pub use Rattle.connection_laws.specs.store_machine.declared
