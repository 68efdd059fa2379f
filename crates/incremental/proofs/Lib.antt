-- Laws and machinery behind the proofs of the functions.
pub mod MarkingLaws
pub mod Passes
pub mod SettlingLaws
pub mod SetLaws
pub mod ChainLaws
pub mod IncludingLaws
pub mod RowsLaws
pub mod LinkLaws
pub mod RisingLaws
pub mod StartLaws
pub mod ClosingLaws
pub mod ByteLaws
pub mod ToldLaws
pub mod UpdateLaws
pub mod FreshLaws
