-- a script of calls as words, and what playing it leaves and logs
pub mod Scripts
