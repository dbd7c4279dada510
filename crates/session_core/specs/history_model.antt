-- What crates above name of `history_model`.
pub use Rattle.history_model.specs.Lines
