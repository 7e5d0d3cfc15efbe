pub mod Execution
pub mod Budget
pub mod Frame
pub mod Worked
