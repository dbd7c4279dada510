-- What crates above name of `program_model`.
pub use Rattle.world_model.specs.program_model.Kept
pub use Rattle.world_model.specs.program_model.Run
pub use Rattle.world_model.specs.program_model.Steps
