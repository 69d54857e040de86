pub mod Owner
pub mod Reading
pub mod HostEnds
pub mod Selecting
pub mod Walking
pub mod Folding
