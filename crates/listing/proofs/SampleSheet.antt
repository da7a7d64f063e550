-- The leaf that document 01 prints ("Leaves to try"): the figures of its sheet, and the exact bytes.
use mathlib.Core.Path.{◌≡◌, refl, ap}
use mathlib.Core.List.{List, [], ◌∷◌, ◌++◌}
use Prim.Native.Nat.{ℕ}
use Prim.Native.Char.{code}
use Prim.Native.String.{String, [] as none, ◌∷◌ as ◌then◌}
use Rattle.segmenting.proofs.Computed.{computed}
use Rattle.segmenting.proofs.SampleLeaf.{sample_leaf}
use Rattle.listing.specs.rules.Digits.{digit_of, hex, refusal_text}
use Rattle.listing.specs.rules.Pages.{figures, head_figures, line_figures, block_figures, glyph_figures, column_figures, dot_figures, numbers_text, figure_text, figures_text, page_sheet}

-- exactly the figures of 01's printed sheet
pub sample-figures :
    figures sample_leaf
    ≡ (0 ∷ 1 ∷ 6 ∷ 4 ∷ 6 ∷ 4 ∷ 0x4000_0000_0000_0000 ∷ [])
    ∷ (1 ∷ 1 ∷ 1 ∷ 3 ∷ 2 ∷ 2 ∷ 4 ∷ 2 ∷ 0 ∷ [])
    ∷ (2 ∷ 1 ∷ 1 ∷ 3 ∷ 2 ∷ 1 ∷ [])
    ∷ (5 ∷ 1 ∷ 1 ∷ 1 ∷ 2 ∷ 2 ∷ 0 ∷ [])
    ∷ (5 ∷ 3 ∷ 1 ∷ 3 ∷ 2 ∷ 2 ∷ 0 ∷ [])
    ∷ (6 ∷ 1 ∷ 3 ∷ [])
    ∷ (7 ∷ 4 ∷ 0 ∷ 0 ∷ 0 ∷ 4 ∷ 0 ∷ [])
    ∷ []
unfolding computed figures head_figures line_figures block_figures glyph_figures column_figures dot_figures
sample-figures = refl

-- the bytes of a text
abbrev pub bytes : String → List ℕ
bytes none = []
bytes (c then s) = code c ∷ bytes s

abbrev pub sample_text : List ℕ
sample_text =
    bytes "000100060004000600044000000000000000\n"
    ++ bytes "01000100010003000200000002000000040002000\n"
    ++ bytes "020001000100030002001\n"
    ++ bytes "05000100010001000200000002000\n"
    ++ bytes "05000300010003000200000002000\n"
    ++ bytes "0600010003\n"
    ++ bytes "07000000040000000000000000000000000000000400000000\n"

-- exactly these bytes
pub sample-text : page_sheet sample_leaf ≡ sample_text
unfolding digit_of hex numbers_text figure_text figures_text page_sheet
sample-text = ap figures_text sample-figures

pub sample-refusal : refusal_text 20 ≡ bytes "FF14\n"
unfolding digit_of hex refusal_text
sample-refusal = refl
