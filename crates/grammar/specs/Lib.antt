pub mod Rules
pub mod Spells
pub mod Greedy
pub mod Whole
pub mod Wider
