mod Areas
mod Held
mod Keys
mod Middles
mod Turning
mod Views
