-- What crates above name of `connection_laws`.
pub use Rattle.connection.specs.connection_laws.Acting
pub use Rattle.connection.specs.connection_laws.Asks
pub use Rattle.connection.specs.connection_laws.AsksLaws
pub use Rattle.connection.specs.connection_laws.Connection
pub use Rattle.connection.specs.connection_laws.Printing
pub use Rattle.connection.specs.connection_laws.PrintingLaws
