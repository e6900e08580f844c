pub mod StateText
pub mod StateLine
pub mod States
pub mod Reading
pub mod Changes
pub mod Follower
pub mod Alike
