-- What crates above name of `minimongo`.
pub use Rattle.minimongo.specs.State
