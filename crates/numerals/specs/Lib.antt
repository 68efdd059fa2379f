-- Numbers as house text and the OWL syntax write them: digits, reading a run of them, bytes in front of a text, lines of numbers,
-- and the lines of the house text. `Inner` has the definitions of private contracts, and proofs/ the laws.
pub mod Digits
pub mod Bytes
pub mod Reading
pub mod Printing
pub mod Lines
pub mod Inner
