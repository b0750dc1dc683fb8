pub mod Coming
pub mod Restoring
pub mod Cutting
pub mod CutTexts
