pub mod Sources
pub mod Made
pub mod MadeLaws
pub mod Found
pub mod News
pub mod NewsLaws
pub mod Alone
pub mod Texts
-- what lies below, for the crates above
pub mod multiplexer
pub mod multiplexer_for_proofs
