pub mod Bytes
pub mod Lists
pub mod Numbers
pub mod Options
pub mod Orders
pub mod Tests
