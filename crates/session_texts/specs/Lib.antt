pub mod Taking
pub mod Said
