-- the words of the store, and what its header says of a levelling
pub mod Header
-- what levelling is handed
pub mod Leaves
-- what the store and the plane of kinds say of a segmentation
pub mod Views
-- which stores are spoiled
pub mod Spoiled
-- the number that each call is refused with
pub mod Refusals
