pub mod Store
pub mod StoreLaws
pub mod Conn
pub mod Acts
pub mod Asks
pub mod World
pub mod Settle
pub mod Events
pub mod Lines
pub mod Headline
pub mod WorldLaws
-- what lies below, for the crates above
pub mod history_model
pub mod history_model_for_proofs
pub mod session_model
pub mod program_model
pub mod publication
