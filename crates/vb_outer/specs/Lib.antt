pub mod Calls
pub mod Faults
pub mod MemShelf
pub mod MemSink
pub mod Place
pub mod Shelf
pub mod Sink
