-- What crates above name of `checking`.
pub use Rattle.checking.specs.Check
pub use Rattle.checking.specs.Input
