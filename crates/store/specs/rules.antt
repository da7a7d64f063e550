-- what levelling, segmenting and clearing write into the store
pub mod Written
-- what levelling is handed
pub mod Handed
-- what each reading asks and answers
pub mod Readings
-- what each call answers and leaves
pub mod Outcomes
