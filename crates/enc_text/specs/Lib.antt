pub mod Fits
pub mod Worked
