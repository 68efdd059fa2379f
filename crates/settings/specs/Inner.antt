-- Definitions of private contracts: no operation's contract reaches them.
pub mod Lent
pub mod Check
pub mod Counts
