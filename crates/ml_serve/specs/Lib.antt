pub mod Headline
pub mod Once
pub mod Printed
pub mod Session
pub mod Visit
