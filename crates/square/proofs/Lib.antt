-- Laws and machinery behind the proofs of the functions.
pub mod BitLaws
pub mod SetLaws
pub mod TurningLaws
pub mod LoadingLaws
