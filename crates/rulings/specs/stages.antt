-- rows or columns walked alike
pub mod Sweeps
-- the marks of both cut masks, a word a dot
pub mod Marks
-- what is said of the words that rulings are marked in
pub mod Worked
