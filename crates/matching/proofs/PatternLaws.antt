-- Pattern tests: what is subsumed where one side holds a variable, said by what is subsumed between ids that hold none.
pub mod Free
pub mod Least
pub mod Down
pub mod Up
