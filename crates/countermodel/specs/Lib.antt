-- What a reader must believe, in 02's order (A.5): interpretations as rows, the countermodel that is shown, and membership in a given
-- interpretation. `Inner` has the definitions of private contracts, and proofs/ the laws.
pub mod Rows
pub mod Countermodel
pub mod Order
pub mod Show
pub mod Membership
pub mod Inner
