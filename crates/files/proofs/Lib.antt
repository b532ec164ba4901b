mod Grammar
mod Ranges
mod Trails
mod Walks
