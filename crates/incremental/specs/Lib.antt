-- What a reader must believe, in 02's order (A.7): an assignment told as pairs, the table that an update leaves, and what the law
-- on fresh tables speaks of. `Inner` has the definitions of private contracts, and proofs/ the laws.
pub mod Told
pub mod Update
pub mod Fresh
pub mod Inner
