-- Laws and machinery behind the proofs of the functions, and the laws of renumbering.
pub mod OrderLaws
pub mod PairLaws
pub mod CheckLaws
pub mod BackLaws
pub mod MovingLaws
pub mod OperationLaws
pub mod TreeLaws
pub mod AlikeLaws
pub mod AcceptedLaws
pub mod BelowLaws
pub mod FillingLaws
pub mod RenumberingLaws
