-- Laws and machinery behind the proofs of the functions, and the sentences on groups.
pub mod GroupLaws
pub mod AgreementLaws
pub mod RestrictedLaws
pub mod FindLaws
pub mod OrderLaws
pub mod TogetherLaws
