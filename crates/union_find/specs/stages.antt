-- parents, and what they owe to a relation
pub mod Forests
