pub mod Forms
pub mod PathLaws
