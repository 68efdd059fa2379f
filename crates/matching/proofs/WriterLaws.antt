-- Writing a derivation: finding and writing its lines.
pub mod Explain
pub mod Lines
pub mod Steps
pub mod Written
pub mod Writing
