-- What crates above name of `session_state`.
pub use Rattle.session_core.specs.session_state.Work
pub use Rattle.session_state.specs.Own
pub use Rattle.session_state.specs.Subs
pub use Rattle.session_state.specs.declared
