pub mod Written
pub mod WriteLaws
pub mod ReadBackLaws
