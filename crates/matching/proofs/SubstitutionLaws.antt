-- Substitutions and assignments: where a substitution solves, it is not impossible that an assignment does.
pub mod Readings
pub mod Decided
pub mod Members
pub mod Assigning
pub mod Parts
pub mod Extended
pub mod Reached
pub mod Locality
pub mod Conjoined
