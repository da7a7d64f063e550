-- The parameter sheet of the show program (01, "Leaves to try": "Its sheet, in `LayoutParams` order").
use Rattle.std.specs.Prelude.{ℕ, pos, Float}
use Rattle.std.specs.Float.{binary64}
use Rattle.std.specs.Float.Ieee.{of_int, of_bits}
use Rattle.params.specs.rules.Sheets.{sheet_of}
use Rattle.params.specs.declared.LayoutParams.{LayoutParams}

abbrev whole : ℕ → Float
whole n = of_int binary64 (pos n)

abbrev half : Float
half = of_bits binary64 0x3FE0_0000_0000_0000

-- 1, 1, 1, 1, 4, 0.5, 4, 8, 1, 1, 0.5, 3, 0.5, 0.5, 3, 1, 0, 0
abbrev pub show_sheet : LayoutParams
show_sheet = sheet_of 1 (whole 1) 1 (whole 1) (whole 4) half (whole 4) (whole 8) (whole 1) 1 half (whole 3) half half (whole 3) (whole 1) (whole 0) (whole 0)
