pub mod Account
pub mod Book
pub mod Counter
pub mod Promise
pub mod Refusals
pub mod Request
pub mod Returns
