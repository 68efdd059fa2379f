-- What the exports answer.
pub mod Answer
