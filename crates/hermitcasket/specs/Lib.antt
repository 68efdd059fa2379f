-- What a reader must believe: the house text, its judgement, and the whole output. `Inner` has the definitions of private contracts,
-- and proofs/ the laws.
pub mod Lines
pub mod Text
pub mod Printing
pub mod Answer
pub mod Inner
