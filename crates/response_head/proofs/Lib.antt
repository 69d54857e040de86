pub mod ByteLaws
pub mod FieldLaws
pub mod LineLaws
pub mod HeadLaws
pub mod HeadBounds
