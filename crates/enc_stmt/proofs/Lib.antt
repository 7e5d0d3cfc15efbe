pub mod BuildLaws
pub mod TreeLaws
