pub mod Loops
pub mod Ids
pub mod Front
pub mod Naming
pub mod Rising
pub mod Marks
