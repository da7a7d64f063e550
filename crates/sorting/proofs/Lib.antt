-- what the labelling gives
pub mod LabelFacts
-- the median by counts
pub mod Medians
-- components by the five words of their sizes
pub mod SizedLaws
-- heights counted, and the unit by them
pub mod HeightLaws
-- areas added up
pub mod AreaLaws
-- the components of a mask: boxes inside it, areas that add up to its ink
pub mod ComponentLaws
-- each dot has one kind, and the five counts add up
pub mod KindLaws
-- why the plan of scratch fits
pub mod PlanLaws
-- the masks that pass, by the marks of the cuts
pub mod CutLaws
-- sorting, stage by stage
pub mod SortLaws
