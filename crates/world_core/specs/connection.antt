-- What crates above name of `connection`.
pub use Rattle.connection.specs.Acting
pub use Rattle.connection.specs.Answers
pub use Rattle.connection.specs.Asks
pub use Rattle.connection.specs.Storing
