pub mod Place
pub mod Tile
pub mod Area
pub mod Cache
pub mod Ends
pub mod Words
