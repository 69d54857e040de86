pub mod TallyTotal
pub mod CountLaws
pub mod CallLaws
pub mod Laws
