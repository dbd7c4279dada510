-- What crates above name of `session_state`.
pub use Rattle.session_state.specs.Calls
pub use Rattle.session_state.specs.Own
pub use Rattle.session_state.specs.Subs
pub use Rattle.session_state.specs.declared
pub use Rattle.session_state.specs.Work
