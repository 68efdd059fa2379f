-- Laws and machinery behind the proofs of the functions.
pub mod CardLaws
pub mod SizeLaws
pub mod AnswerLaws
