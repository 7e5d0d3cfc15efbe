pub mod CallLaws
pub mod FileLaws
pub mod StopLaws
pub mod StreamLaws
pub mod SubjectLaws
pub mod TranslationLaws
pub mod WordLaws
