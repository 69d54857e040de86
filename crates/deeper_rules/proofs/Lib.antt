pub mod FindingLaws
pub mod JoinedSizes
