pub mod BoogieRunLaws
pub mod LiteralLaws
pub mod MethodLaws
