pub mod Rows
pub mod Log
pub mod LogLaws
pub mod Entries
pub mod ToldLaws
