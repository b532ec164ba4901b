pub mod Around
pub mod Joined
pub mod Greatest
pub mod Patience
pub mod Served
pub mod Building
