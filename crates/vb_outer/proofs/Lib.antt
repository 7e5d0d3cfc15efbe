pub mod FaultLaws
mod NamedFiles
mod Rows
pub mod ShelfLaws
pub mod SinkLaws
