-- numbers joined by a relation, directly or by others between, each class named by its first
pub mod Classes
-- what such a naming is to be, and that is all it is to be
pub mod Chains
