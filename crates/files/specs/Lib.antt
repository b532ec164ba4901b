pub mod Bytes
pub mod Faults
pub mod Fields
pub mod Forms
pub mod Kinds
pub mod Parts
pub mod Sections
pub mod Sessions
