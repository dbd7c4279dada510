-- What proofs of crates above name of `headline`.
pub use Rattle.headline.specs.Worlds
pub use Rattle.headline.specs.WorldsLaws
pub use Rattle.headline.specs.Rounds
pub use Rattle.headline.specs.PoliteWorlds
pub use Rattle.headline.specs.PoliteWorldsLaws
