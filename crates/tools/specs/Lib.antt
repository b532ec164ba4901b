pub mod Calls
pub mod Piles
pub mod Plays
