-- Definitions of private contracts: no operation's contract reaches them.
pub mod Square
pub mod Sets
pub mod Turning
pub mod Loading
