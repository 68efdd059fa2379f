-- Definitions of private contracts: no operation's contract reaches them.
pub mod Sizes
pub mod Place
pub mod Kept
pub mod Walk
pub mod Find
