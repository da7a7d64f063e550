-- The code's calls by the words that name them, as specs/rules/Scripts has them.
use Rattle.std.specs.Prelude.{ℕ, List, [], ◌∷◌, get_or}
use Rattle.scripts.specs.declared.calls.Call.{Call}
use Rattle.scripts.specs.declared.calls.Call.TheVariants.{Clear, Level, Segment, ToPage, RectToPage, LevelGray, Frame, Figures, Summary, TwentyLines, CountDots, ReadDots, Columns, Rules, Graphics, Glyphs, Lines, Blocks, Sheet}

-- the calls in the order of their numbers, from 0 on
abbrev pub calls : List Call
calls =
    Clear ∷ Level ∷ Segment ∷ ToPage ∷ RectToPage ∷ LevelGray ∷ Frame ∷ Figures ∷ Summary ∷ TwentyLines ∷ CountDots ∷ ReadDots ∷ Columns ∷ Rules ∷ Graphics ∷ Glyphs
    ∷ Lines ∷ Blocks ∷ Sheet ∷ []

-- the call that a word names
abbrev pub named : ℕ → Call
named op = get_or calls op Clear
