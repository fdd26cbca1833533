mod FieldTexts
mod EntityTags
pub mod SmallTexts
