-- The tests of results as loops that gather one flag, over the words of a store itself.
use mathlib.Core.Path.{◌≡◌, refl, sym, ap, ◌∙◌}
use mathlib.Core.Bool.{Bool, true, false, cond, not, ◌&&◌, ◌||◌}
use mathlib.Core.List.{List, [], ◌∷◌}
use Prim.Native.Nat.{ℕ, zero, suc, ◌+◌, ◌*◌, ◌≤◌, ◌<◌, max}
use native.Mathlib.Nat.{mul-le-mul_right}
use native.Mathlib.Decide.{dec_le}
use native.Mathlib.Numerals.{add-one}
use native.Mathlib.Omega.{arith}
use borrow.Author.Tests.{le-leb, lt-leb, eq-eqb, ne_eqb, leb-true}
use lib.Dec.{eqb, ltb, leb, leb-suc-suc}
use lib.Ieee.{Float, nan, inf, fin, lt, le}
use lib.Ieee.Scale.{finite}
use lib.ListN.{length, get_or, take}
use lib.Seq.{get_or-take, length-take-le}
use Rattle.memory.specs.rules.Lists.{table, greatest}
use Rattle.memory.proofs.BoolLaws.{and_left, and_right}
use Rattle.params.specs.rules.Valid as Valid
use Rattle.params.specs.rules.Valid.{float_one, ten_thousand, length_ok}
use Rattle.memory.proofs.GreatestLaws.{greatest-more}
use Rattle.memory.specs.rules.Masks.{is_mask}
use Rattle.memory.proofs.MaskLaws.{mask-by-table}
use Rattle.judging.specs.rules.Header.{part}
use Rattle.memory.specs.rules.Floats.{float_at}
use Rattle.memory.specs.rules.Limits.{max_lines, no_line}
use Rattle.segmenting.specs.rules.Results.{rules_at, graphics_at, glyph_records_at, lines_at, blocks_at}
use Rattle.segmenting.specs.stages.Places.{result_places}
use Rattle.segmenting.specs.declared.places.ResultPlaces.{ResultPlaces}
use Rattle.smoothing.specs.rules.LineRecords.{line_words, glyph_words}
use Rattle.grouping.specs.rules.BlockRecords.{block_words}
use Rattle.judging.specs.rules.Views.{box_length, glyph_line_at, glyph_height_at, line_block_at, block_lines_at, rule_count, graphic_count, glyph_count, line_count, block_count}
use Rattle.judging.specs.rules.Spoiled.{every, box_ok, boxes_ok, fields_ok, kind_ok, kinds_ok, unit_ok, counts_ok}
use Rattle.judging.specs.stages.Judged.{lists_ok, words_ok}
use Rattle.judging.proofs.PartLaws.{part-word}

-- ---- each number below n

pub every-same : (p q : ℕ → Bool) (n : ℕ) → ((i : ℕ) → i < n → p i ≡ q i) → every p n ≡ every q n
unfolding every
every-same p q zero h = refl
every-same p q (suc n) h =
    let a = every-same p q n (λ i l. h i (omega arith)) in
    let b = h n (omega arith) in
    λ i. a i && b i

pub every-none : (p : ℕ → Bool) → true ≡ every p 0
unfolding every
every-none p = refl

pub every_more : (p : ℕ → Bool) (n : ℕ) (a b : Bool) → a ≡ every p n → b ≡ p n → (a && b) ≡ every p (n + 1)
unfolding every
every_more p n a b e f = (λ i. e i && f i) ∙ ap (every p) (sym (add-one n))

four : (a b c d : Bool) → (a && c && (b && d)) ≡ (a && b && (c && d))
four false b c d = refl
four true false false d = refl
four true false true d = refl
four true true c d = refl

pub every-both : (p q : ℕ → Bool) (n : ℕ) → every (λ i. p i && q i) n ≡ (every p n && every q n)
unfolding every
every-both p q zero = refl
every-both p q (suc n) = ap (λ b. b && (p n && q n)) (every-both p q n) ∙ four (every p n) (p n) (every q n) (q n)

-- ---- records

pub record-ends : (at i n k : ℕ) → i < n → at + i * k + k ≤ at + n * k
record-ends at i n k l = let a : suc i * k ≤ n * k = mul-le-mul_right k l in omega arith

-- word j of record i, in the part and in the store
word-there : (at n k i j : ℕ) (s : List ℕ) → i < n → j < k → get_or (part at (n * k) s) (i * k + j) 0 ≡ get_or s (at + i * k + j) 0
word-there at n k i j s l b =
    let e = record-ends at i n k l in
    part-word at (n * k) s (i * k + j) (omega arith) ∙ ap (λ z. get_or s z 0) (let q : at + (i * k + j) ≡ at + i * k + j = omega arith in q)

-- the tests on the words themselves
abbrev pub box_ok_at : ℕ → ℕ → List ℕ → ℕ → ℕ → ℕ → Bool
box_ok_at w h s at k i = box_ok w h s (at + i * k)

pub boxes-there : (w h at k n : ℕ) (s : List ℕ) (b : Bool) (i : ℕ) → 4 ≤ k → i ≡ n → b ≡ every (box_ok_at w h s at k) i → b ≡ boxes_ok w h k (part at (n * k) s) n
unfolding boxes_ok
boxes-there w h at k n s b i f q e = e ∙ (ap (every (box_ok_at w h s at k)) q ∙ every-same _ _ n (λ j l. sym (each-box j l)))
  where
    each-box : (j : ℕ) → j < n → box_ok w h (part at (n * k) s) (j * k) ≡ box_ok w h s (at + j * k)
    each-box j l =
        let z : j * k + 0 ≡ j * k = omega arith in
        let y : at + j * k + 0 ≡ at + j * k = omega arith in
        let x0 = ap (λ m. get_or (part at (n * k) s) m 0) (sym z) ∙ (word-there at n k j 0 s l (omega arith) ∙ ap (λ m. get_or s m 0) y) in
        let y0 = word-there at n k j 1 s l (omega arith) in
        let x1 = word-there at n k j 2 s l (omega arith) in
        let y1 = word-there at n k j 3 s l (omega arith) in
        λ i. leb (x0 i) (x1 i) && ltb (x1 i) w && leb (y0 i) (y1 i) && ltb (y1 i) h

abbrev pub field_at : (ℕ → Bool) → List ℕ → ℕ → ℕ → ℕ → ℕ → Bool
field_at p s at k j i = p (get_or s (at + i * k + j) 0)

pub fields-there : (p : ℕ → Bool) (at k j n : ℕ) (s : List ℕ) (b : Bool) (i : ℕ) → j < k → i ≡ n → b ≡ every (field_at p s at k j) i → b ≡ fields_ok p k j (part at (n * k) s) n
unfolding fields_ok
fields-there p at k j n s b i f q e = e ∙ (ap (every (field_at p s at k j)) q ∙ every-same _ _ n (λ m l. ap p (sym (word-there at n k m j s l f))))

-- ---- the planes

abbrev pub dot_at : List ℕ → List ℕ → ℕ → Bool
dot_at ink kinds i = leb (get_or ink i 0) 1 && kind_ok (get_or ink i 0) (get_or kinds i 0)

max-low : (a b m : ℕ) → leb (max a b) m ≡ (leb a m && leb b m)
max-low a b m = go (dec_le a m) (dec_le b m)
  where
    go : Dec (a ≤ m) → Dec (b ≤ m) → leb (max a b) m ≡ (leb a m && leb b m)
    go (yes x) (yes y) = rw (le-leb a m x, le-leb b m y, le-leb (max a b) m (omega arith))
    go (yes x) (no y) = rw (le-leb a m x, lt-leb b m (omega arith), lt-leb (max a b) m (omega arith))
    go (no x) d = rw (lt-leb a m (omega arith), lt-leb (max a b) m (omega arith))

mask-every : (m : List ℕ) (n : ℕ) → leb (greatest (table (λ k. get_or m k 0) n)) 1 ≡ every (λ k. leb (get_or m k 0) 1) n
unfolding every
mask-every m zero = unfold table greatest in refl
mask-every m (suc n) =
    ap (λ z. leb (greatest (table (λ k. get_or m k 0) z)) 1) (sym (add-one n))
    ∙ (ap (λ z. leb z 1) (greatest-more (λ k. get_or m k 0) n)
    ∙ (max-low (greatest (table (λ k. get_or m k 0) n)) (get_or m n 0) 1 ∙ ap (λ b. b && leb (get_or m n 0) 1) (mask-every m n)))

mask_is : (m : List ℕ) (n : ℕ) → n ≤ length m → every (λ k. leb (get_or m k 0) 1) n ≡ is_mask (take n m)
mask_is m n h =
    every-same _ _ n (λ i l. ap (λ z. leb z 1) (sym (get_or-take n m i 0 l)))
    ∙ (sym (mask-every (take n m) n) ∙ mask-by-table (take n m) _ n (sym (length-take-le n m h)) refl)

kinds_is : (ink kinds : List ℕ) (n : ℕ) → every (λ i. kind_ok (get_or ink i 0) (get_or kinds i 0)) n ≡ kinds_ok (take n ink) (take n kinds) n
unfolding kinds_ok
kinds_is ink kinds n =
    every-same _ _ n (λ i l. sym (λ j. kind_ok (get_or-take n ink i 0 l j) (get_or-take n kinds i 0 l j)))

pub planes-is : (ink kinds : List ℕ) (n i : ℕ) (b : Bool) → n ≤ length ink → i ≡ n → b ≡ every (dot_at ink kinds) i → b ≡ (is_mask (take n ink) && kinds_ok (take n ink) (take n kinds) n)
planes-is ink kinds n i b h q e =
    e
    ∙ (ap (every (dot_at ink kinds)) q
    ∙ (every-both (λ k. leb (get_or ink k 0) 1) (λ k. kind_ok (get_or ink k 0) (get_or kinds k 0)) n
    ∙ (λ j. mask_is ink n h j && kinds_is ink kinds n j)))

-- ---- the unit

-- a float is finite just where it lies between the infinities
pub finite-is : (v : Float) → (lt (inf true) v && lt v (inf false)) ≡ finite v
unfolding lt
finite-is nan = refl
finite-is (inf true) = refl
finite-is (inf false) = refl
finite-is (fin s m e) = refl

module _ (case : ℕ) (x : Float) (b : Bool) (e : b ≡ finite x) where
  pub assumed-is : case ≡ 0 → (not (not b || lt x Valid.float_zero || lt ten_thousand x) && not (lt x float_one)) ≡ cond (eqb case 0) (length_ok x && not (lt x float_one)) (finite x && le float_one x)
  assumed-is q = ap (λ t. not (not t || lt x Valid.float_zero || lt ten_thousand x) && not (lt x float_one)) e ∙ sym (rw (eq-eqb case 0 q))

  pub measured-is : (case ≡ 0 → ⊥) → (b && le float_one x) ≡ cond (eqb case 0) (length_ok x && not (lt x float_one)) (finite x && le float_one x)
  measured-is q = ap (λ t. t && le float_one x) e ∙ sym (rw (ne_eqb case 0 q))

-- ---- the lists

most : (h : ℕ) → ◌≡◌ {A = ℕ → Bool} (λ v. ltb v (h + 1)) (λ v. leb v h)
most h = λ i v. (ap (ltb v) (add-one h) ∙ leb-suc-suc v h) i

-- the places of the lists, one by one
pub places-are : (q : ResultPlaces) (w P : ℕ) → q ≡ result_places w P → (q.rules ≡ rules_at w) × (q.graphics ≡ graphics_at w P) × (q.glyphs ≡ glyph_records_at w P) × (q.lines ≡ lines_at w P) × (q.blocks ≡ blocks_at w P)
places-are q w P e =
    (ap (λ (z : ResultPlaces). z.rules) e, ap (λ (z : ResultPlaces). z.graphics) e, ap (λ (z : ResultPlaces). z.glyphs) e, ap (λ (z : ResultPlaces). z.lines) e, ap (λ (z : ResultPlaces). z.blocks) e)

pub lists-by : (w h : ℕ) (s : List ℕ) (at P r g y l b : ℕ) (q : ResultPlaces) → q ≡ result_places w P → (t₁ t₂ t₃ t₄ t₅ t₆ t₇ t₈ t₉ : Bool)
    → t₁ ≡ fields_ok (λ v. ltb v (h + 1)) line_words glyph_height_at (part (at + q.lines) (l * line_words) s) l
    → t₂ ≡ fields_ok (λ v. ltb v (l + 1)) block_words block_lines_at (part (at + q.blocks) (b * block_words) s) b
    → t₃ ≡ boxes_ok w h box_length (part (at + q.rules) (r * box_length) s) r
    → t₄ ≡ boxes_ok w h box_length (part (at + q.graphics) (g * box_length) s) g
    → t₅ ≡ boxes_ok w h glyph_words (part (at + q.glyphs) (y * glyph_words) s) y
    → t₆ ≡ boxes_ok w h line_words (part (at + q.lines) (l * line_words) s) l
    → t₇ ≡ boxes_ok w h block_words (part (at + q.blocks) (b * block_words) s) b
    → t₈ ≡ fields_ok (λ v. eqb v no_line || ltb v l) glyph_words glyph_line_at (part (at + q.glyphs) (y * glyph_words) s) y
    → t₉ ≡ fields_ok (λ v. ltb v b) line_words line_block_at (part (at + q.lines) (l * line_words) s) l
    → (t₁ && t₂ && t₃ && t₄ && t₅ && t₆ && t₇ && t₈ && t₉) ≡ lists_ok w h s at P r g y l b
unfolding lists_ok
lists-by w h s at P r g y l b q e t₁ t₂ t₃ t₄ t₅ t₆ t₇ t₈ t₉ e₁ e₂ e₃ e₄ e₅ e₆ e₇ e₈ e₉ =
    let f₁ = e₁ ∙ (λ i. fields_ok (most h i) line_words glyph_height_at (part (at + (e i).lines) (l * line_words) s) l) in
    let f₂ = e₂ ∙ (λ i. fields_ok (most l i) block_words block_lines_at (part (at + (e i).blocks) (b * block_words) s) b) in
    let f₃ = e₃ ∙ (λ i. boxes_ok w h box_length (part (at + (e i).rules) (r * box_length) s) r) in
    let f₄ = e₄ ∙ (λ i. boxes_ok w h box_length (part (at + (e i).graphics) (g * box_length) s) g) in
    let f₅ = e₅ ∙ (λ i. boxes_ok w h glyph_words (part (at + (e i).glyphs) (y * glyph_words) s) y) in
    let f₆ = e₆ ∙ (λ i. boxes_ok w h line_words (part (at + (e i).lines) (l * line_words) s) l) in
    let f₇ = e₇ ∙ (λ i. boxes_ok w h block_words (part (at + (e i).blocks) (b * block_words) s) b) in
    let f₈ = e₈ ∙ (λ i. fields_ok (λ v. eqb v no_line || ltb v l) glyph_words glyph_line_at (part (at + (e i).glyphs) (y * glyph_words) s) y) in
    let f₉ = e₉ ∙ (λ i. fields_ok (λ v. ltb v b) line_words line_block_at (part (at + (e i).lines) (l * line_words) s) l) in
    λ i. f₁ i && f₂ i && f₃ i && f₄ i && f₅ i && f₆ i && f₇ i && f₈ i && f₉ i

-- ---- the figures: words 10 to 24

-- the unit by its case, the counts by their limits
abbrev pub unit_by : ℕ → Float → Bool
unit_by case x = cond (eqb case 0) (length_ok x && not (lt x float_one)) (finite x && le float_one x)

abbrev pub counts_by : ℕ → ℕ → ℕ → ℕ → ℕ → ℕ → ℕ → ℕ → Bool
counts_by r g y l b k w P = leb r (3 * P) && leb g P && leb y P && leb l P && leb l max_lines && leb b P && leb k w

pub figure-word : (s : List ℕ) (j : ℕ) → j < 15 → get_or (part 10 15 s) j 0 ≡ get_or s (10 + j) 0
figure-word s j h = part-word 10 15 s j h

pub figure-float : (s : List ℕ) → float_at (part 10 15 s) 1 ≡ float_at s 11
figure-float s = λ i. float_of (figure-word s 1 (omega arith) i) (figure-word s 2 (omega arith) i)
  where
    float_of : ℕ → ℕ → Float
    float_of low high = float_at (low ∷ high ∷ []) 0

-- what the test of the counts says
pub few : (r g y l b k w P : ℕ) → counts_by r g y l b k w P ≡ true → (r ≤ 3 * P) × (g ≤ P) × (y ≤ P) × (l ≤ P) × (b ≤ P) × (k ≤ w)
few r g y l b k w P e =
    let t₁ = leb r (3 * P) in
    let t₂ = leb g P in
    let t₃ = leb y P in
    let t₄ = leb l P in
    let t₅ = leb l max_lines in
    let t₆ = leb b P in
    let t₇ = leb k w in
    let a₁ = and_left (t₁ && t₂ && t₃ && t₄ && t₅ && t₆) t₇ e in
    let a₂ = and_left (t₁ && t₂ && t₃ && t₄ && t₅) t₆ a₁ in
    let a₃ = and_left (t₁ && t₂ && t₃ && t₄) t₅ a₂ in
    let a₄ = and_left (t₁ && t₂ && t₃) t₄ a₃ in
    let a₅ = and_left (t₁ && t₂) t₃ a₄ in (
      leb-true r (3 * P) (and_left t₁ t₂ a₅),
      leb-true g P (and_right t₁ t₂ a₅),
      leb-true y P (and_right (t₁ && t₂) t₃ a₄),
      leb-true l P (and_right (t₁ && t₂ && t₃) t₄ a₃),
      leb-true b P (and_right (t₁ && t₂ && t₃ && t₄ && t₅) t₆ a₁),
      leb-true k w (and_right (t₁ && t₂ && t₃ && t₄ && t₅ && t₆) t₇ e),
    )

module _ (s : List ℕ) (x : Float) (ex : x ≡ float_at s 11) (w h P at : ℕ) (u f : Bool) (eu : u ≡ unit_by (get_or s 10 0) x)
    (ef : f ≡ counts_by (get_or s 13 0) (get_or s 14 0) (get_or s 15 0) (get_or s 16 0) (get_or s 17 0) (get_or s 18 0) w P) where
  heads : (u && f) ≡ (unit_ok (part 10 15 s) && counts_ok w P (part 10 15 s))
  heads =
      let word : (j : ℕ) → j < 15 → get_or s (10 + j) 0 ≡ get_or (part 10 15 s) j 0 = λ j l. sym (figure-word s j l) in
      let c = word 0 (omega arith) in
      let y = ex ∙ sym (figure-float s) in
      let r = word 3 (omega arith) in
      let g = word 4 (omega arith) in
      let l = word 5 (omega arith) in
      let n = word 6 (omega arith) in
      let b = word 7 (omega arith) in
      let k = word 8 (omega arith) in
      (λ i. eu i && ef i) ∙ (λ i. unit_by (c i) (y i) && counts_by (r i) (g i) (l i) (n i) (b i) (k i) w P)

  pub words-no : (u && f) ≡ false → false ≡ words_ok w h P (part 10 15 s) at s
  unfolding words_ok
  words-no e =
      ap (λ t. t && lists_ok w h s at P (rule_count (part 10 15 s)) (graphic_count (part 10 15 s)) (glyph_count (part 10 15 s)) (line_count (part 10 15 s)) (block_count (part 10 15 s))) (sym e ∙ heads)

  pub words-yes : (u && f) ≡ true → (b : Bool) → b ≡ lists_ok w h s at P (get_or s 13 0) (get_or s 14 0) (get_or s 15 0) (get_or s 16 0) (get_or s 17 0) → b ≡ words_ok w h P (part 10 15 s) at s
  unfolding words_ok
  words-yes e b q =
      let word : (j : ℕ) → j < 15 → get_or s (10 + j) 0 ≡ get_or (part 10 15 s) j 0 = λ j l. sym (figure-word s j l) in
      let r = word 3 (omega arith) in
      let g = word 4 (omega arith) in
      let l = word 5 (omega arith) in
      let n = word 6 (omega arith) in
      let k = word 7 (omega arith) in
      q ∙ (λ i. (sym e ∙ heads) i && lists_ok w h s at P (r i) (g i) (l i) (n i) (k i))

  -- the counts then lie within their areas
  pub words-few : (u && f) ≡ true → (get_or s 13 0 ≤ 3 * P) × (get_or s 14 0 ≤ P) × (get_or s 15 0 ≤ P) × (get_or s 16 0 ≤ P) × (get_or s 17 0 ≤ P) × (get_or s 18 0 ≤ w)
  words-few e = few (get_or s 13 0) (get_or s 14 0) (get_or s 15 0) (get_or s 16 0) (get_or s 17 0) (get_or s 18 0) w P (sym ef ∙ and_right u f e)
