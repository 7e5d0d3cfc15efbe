pub mod Framed
pub mod Spelled
pub mod WordLaws
pub mod Terms
pub mod Statements
pub mod Programs
