-- Definitions of private contracts: no operation's contract reaches them, so a reader need not believe them.
pub mod Sizes
pub mod Chosen
pub mod Search
pub mod Find
pub mod Within
pub mod Derivation
pub mod Writer
