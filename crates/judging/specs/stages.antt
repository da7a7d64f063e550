-- what is judged before the page itself, and before a reading
pub mod Judged
