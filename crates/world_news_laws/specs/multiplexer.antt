-- What crates above name of `multiplexer`.
pub use Rattle.multiplexer.specs.Bounds
pub use Rattle.multiplexer.specs.Leading
pub use Rattle.multiplexer.specs.LeadingLaws
pub use Rattle.multiplexer.specs.LongerLaws
pub use Rattle.multiplexer.specs.Looks
pub use Rattle.multiplexer.specs.Others
pub use Rattle.multiplexer.specs.Spans
pub use Rattle.multiplexer.specs.Telling
pub use Rattle.multiplexer.specs.declared
