-- the record of a component: no dot yet, one dot more
pub mod Components
-- the components of a mask and their labels
pub mod Labels
-- a component's record as nine words
pub mod RecordWords
-- what labelling called by itself answers and leaves
pub mod Answer
