-- Components by the five words of their sizes: read back, and what does not ask for their sums.
use mathlib.Core.Path.{◌≡◌, refl, sym, ap, ◌∙◌}
use mathlib.Core.List.{List, [], ◌∷◌, map, append-nil}
use mathlib.Core.Bool.{Bool, true, false, cond}
use Prim.Native.Nat.{ℕ, ◌+◌, ◌*◌, ◌/◌, ◌%◌, ◌≤◌, ◌<◌}
use native.Mathlib.Omega.{arith}
use lib.ListN.{get_or, length, take, drop, length-map, get_or-map}
use lib.Seq.{ext_get_or}
use lib.Ieee.{Float}
use Rattle.memory.specs.rules.Lists.{table, keep}
use Rattle.memory.specs.rules.Records.{encoded}
use Rattle.memory.proofs.TableLaws.{length-table, get_or-table}
use Rattle.memory.proofs.RecordLaws.{record-at, length-encoded}
use Rattle.memory.specs.rules.Rects.{height}
use Rattle.labelling.specs.rules.Components.{box_of, no_dots}
use Rattle.labelling.specs.stages.Sizes.{HoldsSizes}
use Rattle.memory.specs.declared.rect.Rect.{Rect}
use Rattle.labelling.specs.declared.component.Component.{Component}
use Rattle.labelling.proofs.SizeLaws.{size-at}
use Rattle.params.specs.declared.LayoutParams.{LayoutParams}
use Rattle.sorting.specs.stages.Scratch.{packed}
use Rattle.sorting.specs.rules.Units.{measurable, under_extents, unit_from, unit_of}
use Rattle.sorting.specs.rules.Kinds.{kind_of}
use Rattle.memory.specs.stages.Stored.{Within, Stored}
use Rattle.memory.specs.stages.Boxes.{Inside}
use Rattle.sorting.specs.stages.Measures.{sized, sized_at, sized_from, size_box, SizesInside, measured_heights, box_word, unpacked}
use Rattle.memory.proofs.StoredLaws.{stored-part}

-- the same five words give the same component
pub sized_same : (s t : List ℕ) (at k : ℕ) → ((i : ℕ) → at + 5 * k ≤ i → i < at + 5 * k + 5 → get_or t i 0 ≡ get_or s i 0) → sized_at t at k ≡ sized_at s at k
unfolding sized_at
sized_same s t at k h =
    let a = h (at + 5 * k) (omega arith) (omega arith) in
    let b = h (at + 5 * k + 1) (omega arith) (omega arith) in
    let c = h (at + 5 * k + 2) (omega arith) (omega arith) in
    let d = h (at + 5 * k + 3) (omega arith) (omega arith) in
    let e = h (at + 5 * k + 4) (omega arith) (omega arith) in
    λ i. record { area = a i; x0 = b i; y0 = c i; x1 = d i; y1 = e i; sum_x = 0; sum_y = 0 }

each_two : (r : Rect) → length (packed r) ≡ 2
each_two r = refl

module _ (cs : List Component) (s : List ℕ) (at : ℕ) (held : HoldsSizes cs s at) where
  -- the k-th component, read back
  pub sized-held : (k : ℕ) → k < length cs → sized_at s at k ≡ sized (get_or cs k no_dots)
  unfolding sized_at
  sized-held k l =
      let z = size-at cs s at k held l in
      λ i. record { area = z.area i; x0 = z.x0 i; y0 = z.y0 i; x1 = z.x1 i; y1 = z.y1 i; sum_x = 0; sum_y = 0 }

  -- its box, read back
  pub size-box : (k : ℕ) → k < length cs → size_box s at k ≡ box_of (get_or cs k no_dots)
  size-box k l =
      let z = size-at cs s at k held l in
      let one : at + 5 * k + 1 + 1 ≡ at + 5 * k + 2 = omega arith in
      let two : at + 5 * k + 1 + 2 ≡ at + 5 * k + 3 = omega arith in
      let three : at + 5 * k + 1 + 3 ≡ at + 5 * k + 4 = omega arith in
      λ i. record { x0 = z.x0 i; y0 = (ap (λ (j : ℕ). get_or s j 0) one ∙ z.y0) i; x1 = (ap (λ (j : ℕ). get_or s j 0) two ∙ z.x1) i; y1 = (ap (λ (j : ℕ). get_or s j 0) three ∙ z.y1) i }

  -- what does not ask for the sums, of each component
  pub held-table : {A : Type 0} (f : Component → A) → ((c : Component) → f (sized c) ≡ f c) → table (λ k. f (sized_at s at k)) (length cs) ≡ map f cs
  held-table f h =
      ext_get_or (f no_dots) (table (λ k. f (sized_at s at k)) (length cs)) (map f cs) (length-table (λ k. f (sized_at s at k)) (length cs) ∙ sym (length-map cs f))
      (λ k l. let b : k < length cs = (let e = length-table (λ k. f (sized_at s at k)) (length cs) in omega arith) in
      get_or-table (λ k. f (sized_at s at k)) (length cs) k (f no_dots) b ∙ (ap f (sized-held k b) ∙ (h (get_or cs k no_dots) ∙ sym (get_or-map f cs k no_dots))))

  pub held-inside : (w h : ℕ) → at + 5 * length cs ≤ length s → ((k : ℕ) → k < length cs → Inside w h (box_of (get_or cs k no_dots))) → SizesInside w h s at (length cs)
  held-inside w h room inside =
      record {
        room = room;
        inside = λ k l. let b = inside k l in let e = sized-held k l in
            record {
              columns = (let x = ap (λ (c : Component). c.x0) e in let y = ap (λ (c : Component). c.x1) e in let z = b.columns in omega arith);
              right = (let y = ap (λ (c : Component). c.x1) e in let z = b.right in omega arith);
              rows = (let x = ap (λ (c : Component). c.y0) e in let y = ap (λ (c : Component). c.y1) e in let z = b.rows in omega arith);
              bottom = (let y = ap (λ (c : Component). c.y1) e in let z = b.bottom in omega arith);
            };
      }

heights-sized : (p : LayoutParams) (w h : ℕ) (cs : List Component) → measured_heights p w h (map sized cs) ≡ measured_heights p w h cs
unfolding keep measurable under_extents
heights-sized p w h [] = refl
heights-sized p w h (c ∷ cs) = go (measurable p w h c) (heights-sized p w h cs)
  where
    go : (t : Bool) → measured_heights p w h (map sized cs) ≡ measured_heights p w h cs
        → map (λ (c : Component). height (box_of c)) (cond t (sized c ∷ keep (measurable p w h) (map sized cs)) (keep (measurable p w h) (map sized cs)))
        ≡ map (λ (c : Component). height (box_of c)) (cond t (c ∷ keep (measurable p w h) cs) (keep (measurable p w h) cs))
    go true e = ap (λ (l : List ℕ). height (box_of c) ∷ l) e
    go false e = e

-- the unit does not ask for the sums
pub held-unit : (p : LayoutParams) (w h : ℕ) (cs : List Component) (s : List ℕ) (at : ℕ) → HoldsSizes cs s at → unit_of p w h (sized_from s at (length cs)) ≡ unit_of p w h cs
unfolding unit_of sized_at
held-unit p w h cs s at held = ap (unit_from p) (ap (measured_heights p w h) (held-table cs s at held sized (λ c. refl)) ∙ heights-sized p w h cs)

-- the kinds of the components, as they were stored
pub held-kinds : (p : LayoutParams) (unit : Float) (w h : ℕ) (cs : List Component) (s t : List ℕ) (at kinds : ℕ) → HoldsSizes cs s at → kinds + length cs ≤ length s
    → Stored (λ k. kind_of p unit w h (sized_at s at k)) kinds (length cs) s t → take (length cs) (drop kinds t) ≡ map (kind_of p unit w h) cs
held-kinds p unit w h cs s t at kinds held room stored =
    stored-part stored room ∙ held-table cs s at held (kind_of p unit w h) (λ c. refl)

-- their boxes
pub held-boxes : (cs : List Component) (s t : List ℕ) (at to : ℕ) → HoldsSizes cs s at → to + 2 * length cs ≤ length s
    → Stored (box_word s at) to (2 * length cs) s t → take (2 * length cs) (drop to t) ≡ encoded packed (map box_of cs)
held-boxes cs s t at to held room stored =
    stored-part stored room
    ∙ ext_get_or 0 (table (box_word s at) (2 * length cs)) (encoded packed (map box_of cs))
    (length-table (box_word s at) (2 * length cs) ∙ (let a = length-encoded packed 2 each_two (map box_of cs) in let b = length-map cs box_of in omega arith))
    (λ i l. let b : i < 2 * length cs = (let e = length-table (box_word s at) (2 * length cs) in omega arith) in
    get_or-table (box_word s at) (2 * length cs) i 0 b ∙ word i b)
  where
    box : (k : ℕ) → k < length cs → box_of (sized_at s at k) ≡ get_or (map box_of cs) k (box_of no_dots)
    box k l = ap box_of (sized-held cs s at held k l) ∙ sym (get_or-map box_of cs k no_dots)

    word : (i : ℕ) → i < 2 * length cs → box_word s at i ≡ get_or (encoded packed (map box_of cs)) i 0
    word i l =
        let q : i / 2 < length cs = omega arith in
        let r : i % 2 < 2 = omega arith in
        let z : i / 2 * 2 + i % 2 ≡ i = omega arith in
        let m : length (map box_of cs) ≡ length cs = length-map cs box_of in
        ap (λ (b : Rect). get_or (packed b) (i % 2) 0) (box (i / 2) q)
        ∙ (sym (record-at packed 2 each_two (map box_of cs) [] (i / 2) (i % 2) (box_of no_dots) (omega arith) r)
        ∙ ((λ j. get_or (append-nil (encoded packed (map box_of cs)) j) (z j) 0)))

-- a box packed and read back
pub box-back : (r : Rect) → r.x0 < 32768 → r.y0 < 32768 → unpacked (r.x0 + 32768 * r.x1) (r.y0 + 32768 * r.y1) ≡ r
box-back r l h =
    let a : (r.x0 + 32768 * r.x1) % 32768 ≡ r.x0 = omega arith in
    let b : (r.y0 + 32768 * r.y1) % 32768 ≡ r.y0 = omega arith in
    let c : (r.x0 + 32768 * r.x1) / 32768 ≡ r.x1 = omega arith in
    let d : (r.y0 + 32768 * r.y1) / 32768 ≡ r.y1 = omega arith in
    λ i. record { x0 = a i; y0 = b i; x1 = c i; y1 = d i }

-- Sizes that stand outside what was stored

pub sized-before : {a e : ℕ} {s t : List ℕ} → Within a e s t → (at k : ℕ) → at + 5 * k + 5 ≤ a → sized_at t at k ≡ sized_at s at k
sized-before {s = s} {t = t} W at k l = sized_same s t at k (λ i b c. W.before i (omega arith))

pub sized_past : {a e : ℕ} {s t : List ℕ} → Within a e s t → (at k : ℕ) → e ≤ at → sized_at t at k ≡ sized_at s at k
sized_past {s = s} {t = t} W at k l = sized_same s t at k (λ i b c. W.past i (omega arith))

pub box-word-first : (s : List ℕ) (at k : ℕ) (c : Component) → c ≡ sized_at s at k → c.x0 + 32768 * c.x1 ≡ box_word s at (2 * k)
box-word-first s at k c e =
    let q : k ≡ 2 * k / 2 = omega arith in
    let r : 0 ≡ 2 * k % 2 = omega arith in
    ap (λ (c : Component). c.x0 + 32768 * c.x1) e ∙ (λ i. get_or (packed (box_of (sized_at s at (q i)))) (r i) 0)

pub box-word-second : (s : List ℕ) (at k : ℕ) (c : Component) → c ≡ sized_at s at k → c.y0 + 32768 * c.y1 ≡ box_word s at (2 * k + 1)
box-word-second s at k c e =
    let q : k ≡ (2 * k + 1) / 2 = omega arith in
    let r : 1 ≡ (2 * k + 1) % 2 = omega arith in
    ap (λ (c : Component). c.y0 + 32768 * c.y1) e ∙ (λ i. get_or (packed (box_of (sized_at s at (q i)))) (r i) 0)
