-- an entry's promise, told as one number
pub mod AnswerLaws
