mod PhaseVisits
mod Answering
mod Repeating
mod Stepping
mod Passing
mod TellingLemmas
mod Adding
mod PhaseAsking
pub mod Sends
pub mod Sides
pub mod Told
mod Puts
mod ActingLemmas
mod Asking
mod Begun
mod Operating
mod ShowingLemmas
mod Workers
mod VisitsLemmas
mod Runs
mod Worlds
