pub mod World
pub mod Names
pub mod Doing
pub mod Idle
pub mod Gone
pub mod GoneLaws
pub mod Reaching
pub mod ReachingLaws
pub mod Changing
pub mod Making
pub mod Growing
pub mod GrowingLaws
pub mod Settling
pub mod Asking
pub mod Promises
pub mod Printing
pub use Rattle.headline.specs.AtRest
pub use Rattle.headline.specs.Rounds as RestingRounds
-- what lies below, for the crates above
pub mod headline_for_proofs
pub mod world_values_laws
