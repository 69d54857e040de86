pub mod FullRead
