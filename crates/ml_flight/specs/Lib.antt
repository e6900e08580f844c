pub mod Window
pub mod Shown
pub mod Stay
pub mod Stays
pub mod Peak
pub mod Sweep
pub mod Timelines
