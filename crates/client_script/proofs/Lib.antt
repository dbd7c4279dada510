pub mod LinesRead
pub mod Courses
pub mod LinesRun
pub mod Stopping
pub mod Turning
