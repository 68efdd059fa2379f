-- There is nothing to believe here: `Inner` has the definitions of private contracts, and proofs/ the laws.
pub mod Inner
