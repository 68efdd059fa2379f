-- Membership in a given interpretation.
pub mod Checks
pub mod Stretching
pub mod Scanning
pub mod Weights
pub mod Memo
pub mod Walking
pub mod Sizes
pub mod Deciding
