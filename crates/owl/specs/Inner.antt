-- Definitions of private contracts: no operation's contract reaches them.
pub mod Tokens
pub mod Words
pub mod Frames
pub mod Rows
pub mod Judging
