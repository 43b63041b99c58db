pub mod Holding
pub mod Words
