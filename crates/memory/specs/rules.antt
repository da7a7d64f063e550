-- lists that every definition is built from: tables, those that pass a test, counts, sorting
pub mod Lists
-- a word of a list, and a list over the front of another
pub mod Words
-- records one after the other, each as many words
pub mod Records
-- a float in two words
pub mod Floats
-- the chain of tests that gives a call its number
pub mod Refusals
-- document 01's limits
pub mod Limits
-- a dot of a mask, the bytes of a mask
pub mod Masks
-- boxes: width, height, union
pub mod Rects
