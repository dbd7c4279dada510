pub mod Accounts
pub mod StandingLaws
pub mod EventsLaws
