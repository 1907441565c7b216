pub mod FieldLemmas
pub mod ListImages
pub mod ListLemmas
pub mod PartLemmas
pub mod WholeImage
