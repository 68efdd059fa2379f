-- What a reader must believe of settings; `Inner` has the definitions of private contracts, and proofs/ the laws.
pub mod Settings
pub mod Inner
