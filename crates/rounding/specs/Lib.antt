-- Document 01, part 1, and the drift of part 3.
-- what a reader must believe
pub mod rules
