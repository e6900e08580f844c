pub mod Judged
pub mod SlotLine
pub mod SlotsText
pub mod Near
pub mod Known
pub mod Strips
