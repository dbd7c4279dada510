-- What crates above name of `multiplexer`.
pub use Rattle.world_news_laws.specs.multiplexer.Telling
