-- Definitions of private contracts: no operation's contract reaches them.
pub mod Sizes
pub mod Lent
pub mod Tables
pub mod Atoms
pub mod Twins
pub mod Check
pub mod Listing
pub mod Columns
pub mod Roles
pub mod Names
pub mod Settling
pub mod Links
pub mod Closure
pub mod Rows
