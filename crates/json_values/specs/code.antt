pub mod MemberName
pub mod Kinds
pub mod Folds
