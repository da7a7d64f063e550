-- What scratch holds of an ink plane sorted, read as lists of boxes and as the plane of kinds.
use mathlib.Core.Path.{◌≡◌, refl, sym, ap, ◌∙◌}
use mathlib.Core.Bool.{Bool, true, false, cond, ◌&&◌, ◌||◌, not, true≢false}
use mathlib.Core.List.{List, [], ◌∷◌, ◌++◌, map, append-nil}
use Prim.Native.Nat.{ℕ, zero, suc, ◌+◌, ◌-◌, ◌*◌, ◌/◌, ◌%◌, ◌≤◌, ◌<◌}
use native.Mathlib.Nat.{not-suc-le-zero, le_refl, mul-add-div_right, mul-add-mod_self_right, mod-eq_of_lt, div-eq_of_lt}
use native.Mathlib.Omega.{arith}
use lib.ListN.{get_or, length, take, drop, length-map}
use lib.Seq.{ext_get_or, get_or-take, get_or-drop}
use lib.Dec.{eqb, ltb}
use lib.Ieee.{Float}
use Rattle.memory.specs.rules.Lists.{table, upto, keep, total}
use Rattle.memory.specs.rules.Records.{encoded}
use Rattle.memory.specs.rules.Limits.{max_mask_dots}
use Rattle.memory.proofs.TableLaws.{length-table, get_or-table, table-ext}
use Rattle.memory.proofs.RecordLaws.{record-at}
use Rattle.labelling.specs.rules.Components.{no_dots, box_of}
use Rattle.memory.specs.rules.Masks.{is_ink}
use Rattle.labelling.specs.rules.Labels.{labelling}
use Rattle.labelling.specs.stages.Sizes.{HoldsSizes}
use Rattle.memory.specs.declared.rect.Rect.{Rect}
use Rattle.labelling.specs.declared.component.Component.{Component}
use Rattle.labelling.proofs.SizeLaws.{size-at, component-boxed}
use Rattle.labelling.proofs.Theorems.{label-within, label-blank}
use Rattle.params.specs.declared.LayoutParams.{LayoutParams}
use Rattle.sorting.specs.rules.Kinds.{kind_of, kind_at, rule_kind}
use Rattle.rulings.specs.rules.Rulings.{run_min, thick_max, cut_horizontal, cut_vertical, after_cut}
use Rattle.sorting.specs.rules.Units.{unit_of, unit_value}
use Rattle.sorting.specs.stages.Measures.{size_box, unpacked}
use Rattle.sorting.specs.stages.Scratch.{packed, ink_after_cut}
use Rattle.sorting.proofs.SizedLaws.{size-box}
use Rattle.sorting.specs.rules.Sorted.{sorted, boxes_of, rules_of}
use Rattle.rulings.proofs.RulingMasks.{horizontal-blank, vertical-blank, after_cut-ink}
use Rattle.segmenting.specs.stages.Held.{held_kind, KindsHeld, of_kind, held_boxes, held_area, unpacked_boxes, held_rules}
use Rattle.segmenting.specs.stages.Painting.{painted_kind}
use Rattle.memory.proofs.ListLaws.{get_or-mapped, keep-snoc-yes, keep-snoc-no, map-append}

-- Components of a kind

-- those below n that pass a test, read off a table
pub kept_map : {A B : Type 0} (p : ℕ → Bool) (q : A → Bool) (g : ℕ → B) (r : A → B) (a : ℕ → A) (n : ℕ) → ((k : ℕ) → k < n → p k ≡ q (a k)) → ((k : ℕ) → k < n → g k ≡ r (a k))
    → map g (keep p (upto n)) ≡ map r (keep q (table a n))
unfolding upto table keep
kept_map p q g r a zero t u = refl
kept_map {A} {B} p q g r a (suc n) t u = go (q (a n)) refl (kept_map p q g r a n (λ k l. t k (omega arith)) (λ k l. u k (omega arith)))
  where
    go : (b : Bool) → q (a n) ≡ b → map g (keep p (upto n)) ≡ map r (keep q (table a n)) → map g (keep p (upto n ++ (n ∷ []))) ≡ map r (keep q (table a n ++ (a n ∷ [])))
    go true e i =
        ap (map g) (keep-snoc-yes p (upto n) n (t n (le_refl (suc n)) ∙ e))
        ∙ (map-append g (keep p (upto n)) (n ∷ [])
        ∙ ((λ j. i j ++ (u n (le_refl (suc n)) j ∷ [])) ∙ sym (ap (map r) (keep-snoc-yes q (table a n) (a n) e) ∙ map-append r (keep q (table a n)) (a n ∷ []))))
    go false e i = ap (map g) (keep-snoc-no p (upto n) n (t n (le_refl (suc n)) ∙ e)) ∙ (i ∙ sym (ap (map r) (keep-snoc-no q (table a n) (a n) e)))

as-table : {A : Type 0} (l : List A) (d : A) → table (λ k. get_or l k d) (length l) ≡ l
as-table l d = ext_get_or d (table (λ k. get_or l k d) (length l)) l (length-table (λ k. get_or l k d) (length l)) (λ i b. get_or-table (λ k. get_or l k d) (length l) i d (let e = length-table (λ k. get_or l k d) (length l) in omega arith))

module _ (cs : List Component) (f : Component → ℕ) (s : List ℕ) (sizes kinds kind : ℕ) (H : HoldsSizes cs s sizes) (K : KindsHeld (map f cs) s kinds) where
  kind-is : (k : ℕ) → k < length cs → eqb (held_kind s kinds k) kind ≡ eqb (f (get_or cs k no_dots)) kind
  kind-is k l = ap (λ z. eqb z kind) (K k (let e = length-map cs f in omega arith) ∙ get_or-mapped f cs k 0 no_dots l)

  -- the boxes read are those of the components of the kind, by number
  pub held-boxes : held_boxes s sizes kinds kind (length cs) ≡ map box_of (keep (λ (c : Component). eqb (f c) kind) cs)
  unfolding held_boxes of_kind
  held-boxes =
      kept_map (λ k. eqb (held_kind s kinds k) kind) (λ (c : Component). eqb (f c) kind) (size_box s sizes) box_of (λ k. get_or cs k no_dots) (length cs) kind-is (size-box cs s sizes H)
      ∙ ap (λ l. map box_of (keep (λ (c : Component). eqb (f c) kind) l)) (as-table cs no_dots)

  -- and the area read is theirs
  pub held-area : held_area s sizes kinds kind (length cs) ≡ total (map (λ (c : Component). c.area) (keep (λ (c : Component). eqb (f c) kind) cs))
  unfolding held_area of_kind
  held-area =
      ap total
      (kept_map (λ k. eqb (held_kind s kinds k) kind) (λ (c : Component). eqb (f c) kind) (λ k. get_or s (sizes + 5 * k) 0) (λ (c : Component). c.area) (λ k. get_or cs k no_dots) (length cs) kind-is (λ k l. (size-at cs s sizes k H l).area)
      ∙ ap (λ l. map (λ (c : Component). c.area) (keep (λ (c : Component). eqb (f c) kind) l)) (as-table cs no_dots))

-- Boxes packed

packed-two : (r : Rect) → length (packed r) ≡ 2
packed-two r = refl

no_box : Rect
no_box = box_of no_dots

low_of : (a b : ℕ) → a < 32768 → (a + 32768 * b) % 32768 ≡ a
low_of a b l = ap (λ z. z % 32768) (let e : a + 32768 * b ≡ b * 32768 + a = omega arith in e) ∙ (mul-add-mod_self_right b 32768 a ∙ mod-eq_of_lt l)

high-of : (a b : ℕ) → a < 32768 → (a + 32768 * b) / 32768 ≡ b
high-of a b l =
    ap (λ z. z / 32768) (let e : a + 32768 * b ≡ b * 32768 + a = omega arith in e)
    ∙ (mul-add-div_right {m = 32768} (omega arith) b a ∙ (let e : a / 32768 ≡ 0 = div-eq_of_lt l in omega arith))

-- boxes whose first sides are below 2^15 are read back
pub unpacked-boxes : (rs : List Rect) (s : List ℕ) (from : ℕ) → take (2 * length rs) (drop from s) ≡ encoded packed rs
    → ((k : ℕ) (d : Rect) → k < length rs → ((get_or rs k d).x0 < 32768) × ((get_or rs k d).y0 < 32768)) → unpacked_boxes s from (length rs) ≡ rs
unfolding unpacked_boxes
unpacked-boxes rs s from e low =
    table-ext (λ k. unpacked (get_or s (from + 2 * k) 0) (get_or s (from + 2 * k + 1) 0)) (λ k. get_or rs k no_box) (length rs) each ∙ as-table rs no_box
  where
    word : (k j : ℕ) → k < length rs → j < 2 → get_or s (from + (k * 2 + j)) 0 ≡ get_or (packed (get_or rs k no_box)) j 0
    word k j l b =
        sym (get_or-drop from s (k * 2 + j) 0)
        ∙ (sym (get_or-take (2 * length rs) (drop from s) (k * 2 + j) 0 (omega arith))
        ∙ (ap (λ z. get_or z (k * 2 + j) 0) (e ∙ sym (append-nil (encoded packed rs))) ∙ record-at packed 2 packed-two rs [] k j no_box l b))

    each : (k : ℕ) → k < length rs → unpacked (get_or s (from + 2 * k) 0) (get_or s (from + 2 * k + 1) 0) ≡ get_or rs k no_box
    each k l =
        let a : get_or s (from + 2 * k) 0 ≡ (get_or rs k no_box).x0 + 32768 * (get_or rs k no_box).x1 = ap (λ z. get_or s z 0) (let q : from + 2 * k ≡ from + (k * 2 + 0) = omega arith in q) ∙ word k 0 l (omega arith) in
        let b : get_or s (from + 2 * k + 1) 0 ≡ (get_or rs k no_box).y0 + 32768 * (get_or rs k no_box).y1 = ap (λ z. get_or s z 0) (let q : from + 2 * k + 1 ≡ from + (k * 2 + 1) = omega arith in q) ∙ word k 1 l (omega arith) in
        let x = (low k no_box l).0 in
        let y = (low k no_box l).1 in
        λ i. record {
          x0 = (ap (λ z. z % 32768) a ∙ low_of (get_or rs k no_box).x0 (get_or rs k no_box).x1 x) i;
          y0 = (ap (λ z. z % 32768) b ∙ low_of (get_or rs k no_box).y0 (get_or rs k no_box).y1 y) i;
          x1 = (ap (λ z. z / 32768) a ∙ high-of (get_or rs k no_box).x0 (get_or rs k no_box).x1 x) i;
          y1 = (ap (λ z. z / 32768) b ∙ high-of (get_or rs k no_box).y0 (get_or rs k no_box).y1 y) i;
        }

-- the boxes of a mask's components, packed, are read back: no side of the mask passes 2^15
pub components-unpacked : (w h : ℕ) (m s : List ℕ) (from : ℕ) → 0 < w → w ≤ 32768 → h ≤ 32768 → w * h ≤ max_mask_dots
    → take (2 * length (labelling w h m).components) (drop from s) ≡ encoded packed (map box_of (labelling w h m).components)
    → unpacked_boxes s from (length (labelling w h m).components) ≡ map box_of (labelling w h m).components
components-unpacked w h m s from wide narrow low dots e =
    ap (unpacked_boxes s from) (sym many)
    ∙ unpacked-boxes (map box_of (labelling w h m).components) s from (ap (λ z. take (2 * z) (drop from s)) many ∙ e)
    (λ k d l.
    let q : k < length (labelling w h m).components = (let z = many in omega arith) in
    let B = component-boxed w h m wide dots k q in
    let b = get_or-mapped box_of (labelling w h m).components k d no_dots q in
    let x = ap (λ (r : Rect). r.x0) b in
    let y = ap (λ (r : Rect). r.y0) b in
    let a₁ = B.wide in
    let a₂ = B.right in
    let b₁ = B.high in
    let b₂ = B.bottom in
    (omega arith, omega arith))
  where
    many : length (map box_of (labelling w h m).components) ≡ length (labelling w h m).components
    many = length-map (labelling w h m).components box_of

-- A whole ink plane sorted

module _ (p : LayoutParams) (w h : ℕ) (m s : List ℕ) (sizes kinds : ℕ) (H : HoldsSizes (sorted p w h m).rest.components s sizes) (K : KindsHeld (sorted p w h m).kinds s kinds) where
  pub sorted-boxes : (kind : ℕ) → held_boxes s sizes kinds kind (length (sorted p w h m).rest.components) ≡ boxes_of p w h (sorted p w h m) kind
  unfolding sorted boxes_of
  sorted-boxes kind = held-boxes (sorted p w h m).rest.components (kind_of p (unit_value (sorted p w h m).unit) w h) s sizes kinds kind H K

-- the rules: horizontal cuts, vertical cuts, rule components
module _ (p : LayoutParams) (w h : ℕ) (m s : List ℕ) (ha va sizes kinds : ℕ) (H : HoldsSizes (sorted p w h m).rest.components s sizes) (K : KindsHeld (sorted p w h m).kinds s kinds) where
  pub sorted-rules : unpacked_boxes s ha (length (sorted p w h m).horizontal.components) ≡ map box_of (sorted p w h m).horizontal.components
      → unpacked_boxes s va (length (sorted p w h m).vertical.components) ≡ map box_of (sorted p w h m).vertical.components
      → held_rules s ha (length (sorted p w h m).horizontal.components) va (length (sorted p w h m).vertical.components) sizes kinds (length (sorted p w h m).rest.components) ≡ rules_of p w h (sorted p w h m)
  unfolding held_rules rules_of
  sorted-rules a b = λ i. (a i ++ b i) ++ sorted-boxes p w h m s sizes kinds H K rule_kind i

-- The plane of kinds: a dot left after the cut has its component's kind, another its ink

byte_one : (v : ℕ) → v ≤ 1 → ltb 0 v ≡ true → v ≡ 1
byte_one zero l e = absurd (true≢false (sym e))
byte_one (suc zero) l e = refl
byte_one (suc (suc v)) l e = absurd (omega arith)

byte-none : (v : ℕ) → v ≤ 1 → ltb 0 v ≡ false → v ≡ 0
byte-none zero l e = refl
byte-none (suc zero) l e = absurd (true≢false e)
byte-none (suc (suc v)) l e = absurd (omega arith)

kind-by-label : (ks s : List ℕ) (kinds : ℕ) → KindsHeld ks s kinds → (k : ℕ) → 0 < k → k ≤ length ks → held_kind s kinds (k - 1) ≡ get_or (0 ∷ ks) k 0
kind-by-label ks s kinds K zero a b = absurd (not-suc-le-zero a)
kind-by-label ks s kinds K (suc k) a b = ap (held_kind s kinds) (let e : suc k - 1 ≡ k = omega arith in e) ∙ K k b

module _ (w h : ℕ) (a b m ks s : List ℕ) (kinds : ℕ) (wide : 0 < w) (ones : (i : ℕ) → get_or m i 0 ≤ 1) (blank-a : (i : ℕ) → i < w * h → is_ink m i ≡ false → is_ink a i ≡ false)
    (blank-b : (i : ℕ) → i < w * h → is_ink m i ≡ false → is_ink b i ≡ false) (few : length ks ≡ length (labelling w h (after_cut w h a b m)).components) (K : KindsHeld ks s kinds) where
  dot-kind : (i : ℕ) → i < w * h → painted_kind (after_cut w h a b m) (labelling w h (after_cut w h a b m)).labels s kinds m i ≡ kind_at a b (labelling w h (after_cut w h a b m)).labels ks i
  unfolding painted_kind kind_at
  dot-kind i l = go (is_ink m i) refl (is_ink a i || is_ink b i) refl
    where
      left : is_ink (after_cut w h a b m) i ≡ (is_ink m i && not (is_ink a i || is_ink b i))
      left = after_cut-ink w h a b m i wide l

      go : (t : Bool) → is_ink m i ≡ t → (c : Bool) → (is_ink a i || is_ink b i) ≡ c
          → cond (is_ink (after_cut w h a b m) i) (held_kind s kinds (get_or (labelling w h (after_cut w h a b m)).labels i 0 - 1)) (get_or m i 0)
          ≡ cond (is_ink a i || is_ink b i) 1 (get_or (0 ∷ ks) (get_or (labelling w h (after_cut w h a b m)).labels i 0) 0)
      go true e true f =
          let u : is_ink (after_cut w h a b m) i ≡ false = left ∙ (λ j. e j && not (f j)) in
          rw (u, f) (byte_one (get_or m i 0) (ones i) (unfold is_ink in e))
      go true e false f =
          let u : is_ink (after_cut w h a b m) i ≡ true = left ∙ (λ j. e j && not (f j)) in
          let g = label-within w h (after_cut w h a b m) i l u in
          rw (u, f) (kind-by-label ks s kinds K (get_or (labelling w h (after_cut w h a b m)).labels i 0) g.0 (let q = g.1 in omega arith))
      go false e true f = absurd (true≢false (sym f ∙ (λ j. blank-a i l e j || blank-b i l e j)))
      go false e false f =
          let u : is_ink (after_cut w h a b m) i ≡ false = left ∙ (λ j. e j && not (f j)) in
          rw (u, f) (byte-none (get_or m i 0) (ones i) (unfold is_ink in e) ∙ sym (ap (λ z. get_or (0 ∷ ks) z 0) (label-blank w h (after_cut w h a b m) i l u)))

module _ (p : LayoutParams) (w h : ℕ) (m s : List ℕ) (kinds : ℕ) (wide : 0 < w) (ones : (i : ℕ) → get_or m i 0 ≤ 1) (K : KindsHeld (sorted p w h m).kinds s kinds) where
  unit : Float
  unit = unit_value (unit_of p w h (labelling w h m).components)

  a : List ℕ
  a = cut_horizontal (run_min p unit) (thick_max p unit) w h m

  b : List ℕ
  b = cut_vertical (run_min p unit) (thick_max p unit) w h m

  pub sorted-plane : table (painted_kind (ink_after_cut p w h m) (labelling w h (ink_after_cut p w h m)).labels s kinds m) (w * h) ≡ (sorted p w h m).plane
  unfolding sorted ink_after_cut unit a b
  sorted-plane =
      table-ext _ _ (w * h)
      (dot-kind w h a b m (sorted p w h m).kinds s kinds wide ones (horizontal-blank (run_min p unit) (thick_max p unit) w h m wide) (vertical-blank (run_min p unit) (thick_max p unit) w h m wide) (length-map (labelling w h (after_cut w h a b m)).components _) K)
