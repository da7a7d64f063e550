-- what a writer of a text leaves
pub mod Puts
-- the sheet in the parts that are written one behind the other, and the bytes of a refusal
pub mod Parts
-- the lists in the words of a segmentation's results, and their sheet
pub mod Lists
