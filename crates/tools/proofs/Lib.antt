mod Finals
mod Plays
mod Sequences
