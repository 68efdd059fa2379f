-- Checking a derivation: marks, rules and lines, and that what is accepted is subsumed.
pub mod Cells
pub mod Rules
pub mod Dispatch
pub mod Monotone
pub mod Lines
pub mod Soundness
pub mod Few
