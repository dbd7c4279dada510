pub mod DrawnId
