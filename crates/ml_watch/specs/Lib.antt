pub mod Line
pub mod Puts
pub mod Hearing
pub mod Blank
pub mod MemWatcher
pub mod Spelling
pub mod ById
