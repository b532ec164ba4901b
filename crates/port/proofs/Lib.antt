pub mod Bytes
pub mod Rules
pub mod Tally
pub mod Steps
pub mod Kept
pub mod Laws
pub mod Waiting
