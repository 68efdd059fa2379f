-- Laws and machinery behind the proofs of the functions.
pub mod ReadingLaws
pub mod DigitLaws
pub mod WriteLaws
pub mod PieceLaws
