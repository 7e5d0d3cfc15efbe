pub mod Reasons
pub mod Heads
pub mod Refutes
pub mod Gates
pub mod Shapes
