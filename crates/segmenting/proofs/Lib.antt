-- boxes in lent words: those of the components of a kind, those packed, lists one behind the other
pub mod BoxLaws
-- the plane of kinds painted run by run
pub mod PaintingLaws
-- what scratch holds of an ink plane sorted, read as lists of boxes and as the plane of kinds
pub mod SortedWords
-- the areas of the components of a kind, and what is left of the ink
pub mod AreaLaws
-- lists put in their places in the words lent for results
pub mod PutLaws
-- rules, graphics, blocks and columns in their places
pub mod ResultLaws
-- glyphs and lines of a page, ordered and written
pub mod WritingLaws
-- the same, as the functions that order and write them call the others
pub mod TextLaws
-- a whole page in scratch, and the results of its layout
pub mod LayoutLaws
-- the answer of a whole segmentation, and what its stages ask
pub mod AnswerLaws
-- the figures stored
pub mod FigureLaws
-- the words of the lines once the blocks are set
pub mod BlockedLines
-- one name that opens every definition, for what is computed
pub mod Computed
-- document 01's starred cases, as one table
pub mod StarredCases
-- document 01's printed leaf
pub mod SampleLeaf
