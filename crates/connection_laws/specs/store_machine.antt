-- What crates above name of `store_machine`.
pub use Rattle.store_machine.specs.State
pub use Rattle.store_machine.specs.declared
