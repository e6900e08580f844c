pub mod Search
pub mod Row
pub mod Table
pub mod SlotsText
