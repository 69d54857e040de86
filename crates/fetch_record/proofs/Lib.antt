pub mod ItemLaws
pub mod RecordLaws
pub mod HopLaws
pub mod Laws
pub mod CallerLaws
