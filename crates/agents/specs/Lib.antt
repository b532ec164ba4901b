pub mod Items
pub mod Queue
pub mod Scripts
pub mod Timing
pub mod Memory
pub mod Single
pub mod Building
