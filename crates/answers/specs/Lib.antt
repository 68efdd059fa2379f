-- What an answer in numbers tells.
pub mod Answer
