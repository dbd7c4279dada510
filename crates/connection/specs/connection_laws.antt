-- What crates above name of `connection_laws`.
pub use Rattle.connection_laws.specs.Acting
pub use Rattle.connection_laws.specs.Asks
pub use Rattle.connection_laws.specs.AsksLaws
pub use Rattle.connection_laws.specs.Beginning
pub use Rattle.connection_laws.specs.BeginningLaws
pub use Rattle.connection_laws.specs.Connection
pub use Rattle.connection_laws.specs.Links
pub use Rattle.connection_laws.specs.Printing
pub use Rattle.connection_laws.specs.PrintingLaws
pub use Rattle.connection_laws.specs.Standing
pub use Rattle.connection_laws.specs.StandingLaws
