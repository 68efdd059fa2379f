-- Listing one variable's chosen ids.
pub mod Picked
pub mod Faults
