pub mod MapLaws
mod ListLaws
pub mod PrintableLaws
