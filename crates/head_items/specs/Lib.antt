pub mod HeadItem
pub mod ReadBack
pub mod code
