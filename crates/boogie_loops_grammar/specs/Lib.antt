pub mod Noting
pub mod Words
pub mod Trees
pub mod Grammar
pub mod Spells
