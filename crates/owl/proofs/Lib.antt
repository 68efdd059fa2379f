-- Laws and machinery behind the proofs of the functions, and the laws of the syntax: what is accepted, and what it means.
pub mod TokenLaws
pub mod WordLaws
pub mod FrameLaws
pub mod RowLaws
pub mod ShuttingLaws
pub mod JudgingLaws
pub mod ReadLaws
pub mod SpellingLaws
pub mod EntryLaws
pub mod PassLaws
pub mod WrittenLaws
pub mod ParseLaws
pub mod GrammarLaws
pub mod MeaningLaws
pub mod AcceptedLaws
