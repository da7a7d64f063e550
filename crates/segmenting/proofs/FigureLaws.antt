-- The figures of a segmentation stored one by one.
use mathlib.Core.Path.{◌≡◌, ap, ◌∙◌}
use mathlib.Core.List.{List, [], ◌∷◌}
use Prim.Native.Nat.{ℕ, ◌≤◌}
use lib.Ieee.{Float}
use lib.ListN.{length, set, length-set}
use Rattle.memory.specs.rules.Floats.{with_float}
use Rattle.memory.specs.rules.Words.{over}
use Rattle.memory.proofs.CopyLaws.{stores, stores-over}
use Rattle.sorting.specs.rules.Units.{unit_value}
use Rattle.segmenting.specs.rules.Figures.{figures_length, measured_word, figure_words}
use Rattle.segmenting.specs.declared.results.Segmentation.{Segmentation}

pub figures-long : (s t : List ℕ) (a : ℕ) (x : Float) → figures_length ≤ length s → t ≡ with_float (set s 0 a) 1 x → length t ≡ length s
figures-long s t a x l e = ap length e ∙ simp length-set

pub figures-written : (f : Segmentation) (s t : List ℕ) (a : ℕ) (x : Float) → figures_length ≤ length s → a ≡ measured_word f.unit → x ≡ unit_value f.unit → t ≡ with_float (set s 0 a) 1 x
    → set
    (set
    (set (set (set (set (set (set (set (set (set (set t 3 f.rules) 4 f.graphics) 5 f.glyphs) 6 f.lines) 7 f.blocks) 8 f.columns) 9 f.ink) 10 f.cut) 11 f.rule) 12 f.graphic)
    13
    f.glyph)
    14
    f.speck
    ≡ over (figure_words f) s
unfolding figure_words
figures-written f s t a x l ea ex et =
    (λ i. stores (f.rules ∷ f.graphics ∷ f.glyphs ∷ f.lines ∷ f.blocks ∷ f.columns ∷ f.ink ∷ f.cut ∷ f.rule ∷ f.graphic ∷ f.glyph ∷ f.speck ∷ []) 3 ((et ∙ (λ j. with_float (set s 0 (ea j)) 1 (ex j))) i))
    ∙ stores-over (figure_words f) s l
