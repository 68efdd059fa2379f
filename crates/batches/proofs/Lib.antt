-- Laws and machinery behind the proofs of the functions.
pub mod BatchLaws
pub mod StretchLaws
pub mod FindLaws
pub mod RunLaws
pub mod SentenceLaws
