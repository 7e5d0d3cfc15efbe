pub mod AloneLaws
pub mod BegunLaws
pub mod RunBodyLaws
pub mod KeptLaws
