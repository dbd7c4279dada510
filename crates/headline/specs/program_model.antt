-- What crates above name of `program_model`.
pub use Rattle.world_invariant_laws.specs.program_model.Run
pub use Rattle.world_invariant_laws.specs.program_model.Steps
