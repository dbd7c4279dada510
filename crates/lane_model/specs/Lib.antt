pub mod Among
pub mod RisingLaws
pub mod Account
pub mod AccountLaws
