pub mod Replay
pub mod Stepping
pub mod Tasks
pub mod Truth
pub mod ValuesRead
pub mod ValuesReadLaws
pub mod EventsRead
pub mod EventsReadLaws
pub mod TruthLaws
-- what lies below, for the crates above
pub mod checking
