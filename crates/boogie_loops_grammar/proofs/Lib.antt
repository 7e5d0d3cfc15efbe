pub mod Noting
pub mod NotedTable
pub mod Elements
pub mod Reading
