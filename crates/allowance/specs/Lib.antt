-- What a reader must believe of allowances (02, A.4); `Inner` has the definitions of private contracts, and proofs/ the laws.
pub mod Partial
pub mod Count
pub mod Find
pub mod Inner
