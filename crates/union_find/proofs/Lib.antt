-- `firsts` names each class by its first, and nothing else does
pub mod FirstLaws
-- union-find over any relation, number by number
pub mod LinkLaws
-- the parents meanwhile
pub mod ParentLaws
-- path halving keeps the roots
pub mod HalvingLaws
