-- Laws and machinery behind the proofs of the functions.
pub mod JoinedLaws
pub mod RowMembers
pub mod FlatLaws
pub mod ShownLaws
pub mod CountermodelLaws
pub mod ShownChecks
pub mod RisingLaws
pub mod NotingLaws
pub mod JudgingLaws
pub mod PuttingLaws
pub mod UsedLaws
pub mod ShowingLaws
pub mod MemberLaws
