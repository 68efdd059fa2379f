-- What a reader must believe of batches; `Inner` has the definitions of private contracts, and proofs/ the laws.
pub mod Batch
pub mod Find
pub mod Inner
