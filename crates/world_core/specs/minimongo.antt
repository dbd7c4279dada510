-- What crates above name of `minimongo`.
pub use Rattle.connection.specs.minimongo.State
