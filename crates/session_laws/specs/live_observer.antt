-- What crates above name of `live_observer`.
pub use Rattle.live_observer.specs.Observing
