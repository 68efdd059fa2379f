-- From an operation's answer to numbers.
pub mod AnswerLaws
