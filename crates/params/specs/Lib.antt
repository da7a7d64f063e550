-- The parameter sheet of layout.rs (01, the forms that give way; refusal 6).
-- what a reader must believe
pub mod rules
