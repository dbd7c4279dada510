-- What crates above name of `program_model`.
pub use Rattle.program_model.specs.Guarded
pub use Rattle.program_model.specs.Kept
pub use Rattle.program_model.specs.Run
pub use Rattle.program_model.specs.RunLaws
pub use Rattle.program_model.specs.StepLaws
pub use Rattle.program_model.specs.Steps
pub use Rattle.program_model.specs.Touched
pub use Rattle.program_model.specs.declared
