-- What the sample cards say, and what they leave of every finder's answer, of every table that is written, and of the checks.
pub mod Samples
pub mod Found
pub mod Shown
pub mod Judged
