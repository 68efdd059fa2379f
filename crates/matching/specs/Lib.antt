-- What a reader must believe of matching and derivations, in 01's order; last what the law on twins says. Inner has the definitions of
-- private contracts, proofs/ the laws.
pub mod Solving
pub mod Find
pub mod Within
pub mod Among
pub mod Chosen
pub mod Derivation
pub mod Writer
pub mod Twins
pub mod Inner
