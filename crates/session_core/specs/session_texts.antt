-- What crates above name of `session_texts`.
pub use Rattle.session_texts.specs.Said
pub use Rattle.session_texts.specs.Taking
pub use Rattle.session_texts.specs.declared
