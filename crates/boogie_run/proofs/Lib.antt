mod BlockLaws
mod RunStepLaws
pub mod RunWithinLaws
pub mod SettingLaws
pub mod StartLaws
pub mod SteppedLaws
