pub mod Heads
pub mod Held
pub mod Reading
pub mod Request
pub mod Stream
