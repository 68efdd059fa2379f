-- What a reader must believe of groups of questions; `Inner` has the definitions of private contracts, and proofs/ the laws.
pub mod Group
pub mod Find
pub mod Together
pub mod Inner
