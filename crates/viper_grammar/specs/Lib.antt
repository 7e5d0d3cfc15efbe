pub mod Tests
pub mod Grammar
pub mod Spells
pub mod Greedy
pub mod View
pub mod Stops
