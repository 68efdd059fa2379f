-- What a reader must believe, in 02's order (A.12): the renumbered tables, the operation, and what the laws on them speak of.
-- `Inner` has the definitions of private contracts, and proofs/ the laws.
pub mod Order
pub mod Renumbering
pub mod Renumber
pub mod Laws
pub mod Inner
