-- Definitions of private contracts: no operation's contract reaches them.
pub mod Find
