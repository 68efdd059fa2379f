-- Laws and machinery behind the proofs of the functions.
pub mod SubstitutionLaws
pub mod TwinLaws
pub mod SearchLaws
pub mod ChosenLaws
pub mod WithinLaws
pub mod EarlierLaws
pub mod FindLaws
pub mod DerivationLaws
pub mod WriterLaws
pub mod PatternLaws
