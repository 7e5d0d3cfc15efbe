pub mod Judged
pub mod ArgumentLaws
pub mod ScopeLaws
pub mod NamingLaws
pub mod ListedLaws
