pub mod Weighing
pub mod PricedBooks
