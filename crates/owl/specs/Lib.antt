-- What a reader must believe, in 02's order (A.8): tokens and words, the judgement of a text, the grammar and what it means, the operation.
-- `Inner` has the definitions of private contracts, and proofs/ the laws.
pub mod Tokens
pub mod Words
pub mod Judgement
pub mod Grammar
pub mod Read
pub mod Inner
