-- What small edits of the tables can move, in sentences; proofs/ shows each of them.
pub mod Edits
pub mod Inclusions
pub mod Questions
