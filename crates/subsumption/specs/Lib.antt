-- What a reader must believe, in 01's order: tables, atoms and assignments, below, rules, operations, refusals. `Inner` has the
-- definitions of private contracts, and proofs/ the laws.
pub mod Tables
pub mod Lent
pub mod Atoms
pub mod Roles
pub mod Subsumption
pub mod Rules
pub mod Variables
pub mod Listing
pub mod Table
pub mod Decide
pub mod Refusal
pub mod Check
pub mod Inner
