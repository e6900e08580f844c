pub mod Codes
pub mod Generating
pub mod Once
pub mod Outcome
pub mod Program
pub mod Ready
pub mod Run
pub mod Serving
