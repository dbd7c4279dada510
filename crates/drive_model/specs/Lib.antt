pub mod Courses
pub mod Good
pub mod Printed
