pub mod Fresh
pub mod Cut
pub mod Alike
pub mod Follows
pub mod Bounded
pub mod Sum
pub mod View
