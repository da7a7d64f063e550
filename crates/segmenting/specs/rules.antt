-- one record of all results of a page, and the refusals that it can give
pub mod Layouts
-- `summarize` and the twenty-line measure of a page
pub mod LayoutReadings
-- the figures of a segmentation, and their words
pub mod Figures
-- the lists of a segmentation in the words lent for results
pub mod Results
-- what a whole segmentation answers and leaves
pub mod Answers
