pub mod Key
pub mod Order
pub mod Spans
pub mod Search
pub mod Query
pub mod Sound
pub mod Index
