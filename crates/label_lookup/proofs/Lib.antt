pub mod FindLaws
pub mod ClimbLaws
pub mod RoundLaws
pub mod LookLaws
pub mod PassLaws
pub mod OwnerLaws
pub mod SpanLaws
