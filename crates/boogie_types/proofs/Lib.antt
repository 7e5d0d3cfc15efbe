pub mod TypingLaws
