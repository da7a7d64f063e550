-- How long a printed text can be: each list of a page to 16 × 16 is at most as long as its capacity allows, and each entry of a kind has the
-- bytes of its format at most.
use mathlib.Core.Path.{◌≡◌, refl, sym, ap, ◌∙◌}
use mathlib.Core.Bool.{Bool, true, false, cond}
use mathlib.Core.List.{List, [], ◌∷◌, ◌++◌, map}
use Prim.Native.Nat.{ℕ, ◌+◌, ◌*◌, ◌≤◌}
use native.Mathlib.Nat.{mul-le-mul_right}
use native.Mathlib.Decide.{ℕ_discrete}
use native.Mathlib.Omega.{arith}
use borrow.Author.Tests.{eq-eqb, ne_eqb, le-ltb}
use lib.Dec.{T, eqb}
use lib.Ieee.{fits, binary64}
use lib.Ieee.Bits.{of_bits-fits}
use lib.ListN.{length, get_or, take, drop, length-append}
use lib.Seq.{take_at}
use Rattle.memory.specs.rules.Refusals.{refuse_if}
use Rattle.memory.specs.rules.Words.{over}
use Rattle.memory.specs.declared.rect.Rect.{Rect}
use Rattle.segmenting.specs.rules.Layouts.{Page, layout_refusal}
use Rattle.judging.specs.rules.Leaves.{Leaf, levelling_of, layout_of}
use Rattle.judging.specs.rules.Refusals.{leaf_refusal}
use Rattle.listing.specs.rules.Digits.{hex, refusal_text}
use Rattle.listing.specs.rules.Pages.{formats, corners, head_figures, line_figures, block_figures, glyph_figures, column_figures, dot_figures, figures, numbers_text, figure_text, figures_text, page_sheet}
use Rattle.listing.specs.stages.Parts.{all_digits}
use Rattle.listing.proofs.DigitLaws.{length-hex}
use Rattle.store.specs.rules.Readings.{Output}
use Rattle.store.specs.rules.Readings.Output.{none, words, integers, floats}
use Rattle.store.specs.rules.Outcomes.{Told, told, told_by}
use Rattle.store.proofs.ListLaws.{Few}
use Rattle.store.proofs.LayoutLaws.{few-of}
use Rattle.showing.specs.rules.Inputs.{well_made, skew_of, slope_of}
use Rattle.showing.specs.rules.Shows.{leaf_shown, leaf_number, leaf_text, shown, shown_to}
use Rattle.showing.specs.stages.Rooms.{longest_shown}
use Rattle.showing.proofs.InputLaws.{made}
use Rattle.showing.proofs.LeafLaws.{leaf-passes, leaf-accepted}
use Rattle.showing.proofs.RoomLaws.{small-frame}

-- ---- entries

numbers-short : (ns l : List ℕ) → length (numbers_text ns l) ≤ all_digits ns
unfolding numbers_text
numbers-short [] l = omega arith
numbers-short (n ∷ ns) [] = omega arith
numbers-short (n ∷ ns) (v ∷ l) =
    let e = length-append (hex n v) (numbers_text ns l) in
    let d = length-hex n v in
    let i = numbers-short ns l in
    omega arith

-- the bytes of an entry of a kind
abbrev most : ℕ → ℕ
most kind = 3 + all_digits (get_or formats kind [])

entry-short : (kind : ℕ) (l : List ℕ) → length (figure_text (kind ∷ l)) ≤ most kind
unfolding figure_text
entry-short kind l =
    let ns = get_or formats kind [] in
    let e = length-append (hex 2 kind ++ numbers_text ns l) (10 ∷ []) in
    let f = length-append (hex 2 kind) (numbers_text ns l) in
    let d = length-hex 2 kind in
    let i = numbers-short ns l in
    omega arith

-- ---- lists of entries

figures-more : (a b : List (List ℕ)) → length (figures_text (a ++ b)) ≡ length (figures_text a) + length (figures_text b)
unfolding figures_text
figures-more [] b = omega arith
figures-more (x ∷ a) b =
    let e = length-append (figure_text x) (figures_text (a ++ b)) in
    let f = length-append (figure_text x) (figures_text a) in
    let i = figures-more a b in
    omega arith

list-short : {A : Type 0} (f : A → List ℕ) (k : ℕ) → ((x : A) → length (figure_text (f x)) ≤ k) → (l : List A) → length (figures_text (map f l)) ≤ length l * k
unfolding figures_text
list-short f k each [] = omega arith
list-short f k each (x ∷ l) =
    let e = length-append (figure_text (f x)) (figures_text (map f l)) in
    let i = list-short f k each l in
    let b = each x in
    omega arith

one-short : (x : List ℕ) (k : ℕ) → length (figure_text x) ≤ k → length (figures_text (x ∷ [])) ≤ k
unfolding figures_text
one-short x k h = let e = length-append (figure_text x) [] in omega arith

-- at most n entries
few-short : {A : Type 0} (f : A → List ℕ) (k n : ℕ) → ((x : A) → length (figure_text (f x)) ≤ k) → (l : List A) → length l ≤ n → length (figures_text (map f l)) ≤ n * k
few-short f k n each l h = let a = list-short f k each l in let b = mul-le-mul_right k h in omega arith

page-short : (p : Page) → Few 46 64 p.layout → length (page_sheet p) ≤ longest_shown
unfolding page_sheet figures head_figures line_figures block_figures glyph_figures column_figures dot_figures
page-short p few =
    let l = p.layout in
    let h = one-short (head_figures p) 37 (entry-short 0 _) in
    let a = few-short line_figures 42 64 (λ x. entry-short 1 _) l.lines few.lines in
    let b = few-short block_figures 22 64 (λ x. entry-short 2 _) l.blocks few.blocks in
    let c = few-short (λ (r : Rect). 3 ∷ corners r) 19 192 (λ x. entry-short 3 _) l.rules few.rules in
    let d = few-short (λ (r : Rect). 4 ∷ corners r) 19 64 (λ x. entry-short 4 _) l.graphics few.graphics in
    let e = few-short glyph_figures 30 64 (λ x. entry-short 5 _) l.glyphs few.glyphs in
    let f = few-short column_figures 11 46 (λ x. entry-short 6 _) l.columns few.columns in
    let g = one-short (dot_figures l.ink_pixels l.counts) 51 (entry-short 7 _) in
    sum (head_figures p ∷ []) (map line_figures l.lines) (map block_figures l.blocks) (map (λ (r : Rect). 3 ∷ corners r) l.rules)
    (map (λ (r : Rect). 4 ∷ corners r) l.graphics) (map glyph_figures l.glyphs) (map column_figures l.columns) (dot_figures l.ink_pixels l.counts ∷ []) h a b c d e f g
  where
    sum : (h a b c d e f g : List (List ℕ))
        → length (figures_text h) ≤ 37 → length (figures_text a) ≤ 64 * 42 → length (figures_text b) ≤ 64 * 22 → length (figures_text c) ≤ 192 * 19 → length (figures_text d) ≤ 64 * 19
        → length (figures_text e) ≤ 64 * 30 → length (figures_text f) ≤ 46 * 11 → length (figures_text g) ≤ 51
        → length (figures_text (h ++ a ++ b ++ c ++ d ++ e ++ f ++ g)) ≤ longest_shown
    sum h a b c d e f g h' a' b' c' d' e' f' g' =
        let x₁ = figures-more (h ++ a ++ b ++ c ++ d ++ e ++ f) g in
        let x₂ = figures-more (h ++ a ++ b ++ c ++ d ++ e) f in
        let x₃ = figures-more (h ++ a ++ b ++ c ++ d) e in
        let x₄ = figures-more (h ++ a ++ b ++ c) d in
        let x₅ = figures-more (h ++ a ++ b) c in
        let x₆ = figures-more (h ++ a) b in
        let x₇ = figures-more h a in
        omega arith

-- ---- the leaf

refusal-short : (n : ℕ) → length (refusal_text n) ≤ longest_shown
unfolding refusal_text hex
refusal-short n = omega arith

module _ (a : Leaf) (F : T (fits binary64 a.skew) × T (fits binary64 a.slope)) (narrow : a.w ≤ 16) (low : a.h ≤ 16) (c : a.capacity ≡ 64) where
  -- a leaf that is printed is handed as it should be
  handed : leaf_number a ≡ 0 → leaf_refusal a 0 ≡ 0
  unfolding leaf_number
  handed e = go (ℕ_discrete (leaf_refusal a 0) 0)
    where
      go : Dec (leaf_refusal a 0 ≡ 0) → leaf_refusal a 0 ≡ 0
      go (yes z) = z
      go (no n) = sym ((leaf-passes a).stop n (layout_refusal a.capacity (layout_of a a.sheet))) ∙ e

  few : leaf_number a ≡ 0 → Few 46 64 (layout_of a a.sheet)
  unfolding leaf_number
  few e =
      let z = handed e in
      let w = (levelling_of a).frame.w in
      let n = (small-frame a (leaf-accepted a F z) narrow low).narrow in
      let G = few-of a.sheet w (levelling_of a).frame.h (levelling_of a).ink a.capacity (sym ((leaf-passes a).pass z (layout_refusal a.capacity (layout_of a a.sheet))) ∙ e) in
      let x₁ = G.columns in
      let x₂ = G.rules in
      let x₃ = G.graphics in
      let x₄ = G.glyphs in
      let x₅ = G.lines in
      let x₆ = G.blocks in
      record { columns = omega arith; rules = omega arith; graphics = omega arith; glyphs = omega arith; lines = omega arith; lines-most = G.lines-most; blocks = omega arith }

  leaf-short : length (leaf_text a) ≤ longest_shown
  unfolding leaf_text
  leaf-short = go (ℕ_discrete (leaf_number a) 0)
    where
      go : Dec (leaf_number a ≡ 0) → length (cond (eqb (leaf_number a) 0) (page_sheet (record { levelled = levelling_of a; layout = layout_of a a.sheet })) (refusal_text (leaf_number a))) ≤ longest_shown
      go (yes e) = rw (eq-eqb _ 0 e) (page-short (record { levelled = levelling_of a; layout = layout_of a a.sheet }) (few e))
      go (no n) = rw (ne_eqb _ 0 n) (refusal-short (leaf_number a))

-- ---- what is printed

pub shown-short : (s : List ℕ) → length (shown s) ≤ longest_shown
unfolding shown
shown-short s = go (well_made s) refl
  where
    go : (b : Bool) → well_made s ≡ b → length (cond b (leaf_text (leaf_shown s)) (refusal_text 0)) ≤ longest_shown
    go true e = let m = made s e in leaf-short (leaf_shown s) (of_bits-fits binary64 (skew_of s), of_bits-fits binary64 (slope_of s)) m.narrow m.low refl
    go false e = refusal-short 0

-- so where that many bytes are lent it is always told ..
always-told : (s out : List ℕ) → longest_shown ≤ length out → shown_to s out ≡ told 0 (length (shown s)) (words (over (shown s) out))
unfolding shown_to told_by refuse_if
always-told s out h = let b = shown-short s in rw (le-ltb (length out) (length (shown s)) (omega arith))

-- the bytes of an output
abbrev bytes_of : Output → List ℕ
bytes_of none = []
bytes_of (words l) = l
bytes_of (integers l) = []
bytes_of (floats l) = []

-- .. and stands in front, as many bytes as the answer says
pub printed-front : (s out out' : List ℕ) (n m : ℕ) → longest_shown ≤ length out → told n m (words out') ≡ shown_to s out → (m ≤ length out') × (take m out' ≡ shown s)
printed-front s out out' n m h e =
    let q = e ∙ always-told s out h in
    let v : m ≡ length (shown s) = ap (λ (z : Told). z.value) q in
    let o : out' ≡ over (shown s) out = ap (λ (z : Told). bytes_of z.output) q in
    let l = length-append (shown s) (drop (length (shown s)) out) in
    let k : length out' ≡ length (over (shown s) out) = ap length o in
    (omega arith, ap (take m) o ∙ take_at (shown s) (drop (length (shown s)) out) m (sym v))
