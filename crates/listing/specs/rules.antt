-- hexadecimal digits of a number, and texts one after the other
pub mod Digits
-- the printed sheet of a page, line by line
pub mod Pages
-- the same text over the words of a store's lists and figures, whatever they hold
pub mod Sheets
