-- what a reader must believe
pub mod rules
-- what only the code's way needs
pub mod stages
