-- the cut masks and the ink after the cut, dot by dot
pub mod RulingMasks
-- rows or columns walked alike: marks, runs from probes, extents kept
pub mod SweepLaws
-- columns walked row by row: counters, and the marks one row more brings
pub mod ColumnLaws
