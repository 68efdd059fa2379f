-- Why the sets and numbers are those of the tables (src/search/problem.rt).
pub mod Filling
pub mod Cones
pub mod Closers
pub mod Numbers
pub mod Lines
pub mod Whole
