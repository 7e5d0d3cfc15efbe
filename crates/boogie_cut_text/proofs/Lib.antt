pub mod NameLaws
pub mod LiteralLaws
pub mod PrintableLaws
pub mod WrittenLaws
