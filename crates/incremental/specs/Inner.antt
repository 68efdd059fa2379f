-- Definitions of private contracts: no operation's contract reaches them.
pub mod Marking
pub mod Pass
pub mod Lines
pub mod Settling
pub mod Including
pub mod Rows
pub mod Links
pub mod Rising
pub mod Start
pub mod Closing
pub mod Bytes
pub mod Told
