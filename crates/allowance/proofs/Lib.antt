-- Laws and machinery behind the proofs of the functions.
pub mod PartialLaws
pub mod OrderLaws
pub mod CountLaws
pub mod PlaceLaws
pub mod KeptLaws
pub mod WalkLaws
pub mod FindLaws
pub mod AnswerLaws
pub mod AllowanceLaws
pub mod CaseLaws
