-- a part of words: after words are put over the front or from a place on
pub mod PartLaws
-- a header within its limits
pub mod LimitLaws
-- the first tests on a store
pub mod HeadTests
-- frame words and shears held against the frame that the held slope gives
pub mod ShearTests
-- segmenting: what is judged before the page itself
pub mod SegmentLaws
-- readings that need only a levelled page: what is judged
pub mod LevelLaws
-- the tests of results as loops over the words of a store
pub mod ResultLaws
-- readings of results: what is judged
pub mod SpoiledLaws
