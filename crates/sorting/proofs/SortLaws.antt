-- Sorting, stage by stage: what each labelling leaves for those after it, up to the plane sorted.
use mathlib.Core.Path.{◌≡◌, refl, sym, ap, ◌∙◌, subst}
use mathlib.Core.Bool.{false}
use mathlib.Core.List.{List, [], map}
use Prim.Native.Nat.{ℕ, ◌+◌, ◌-◌, ◌*◌, ◌≤◌, ◌<◌, min}
use native.Mathlib.Nat.{le_refl}
use native.Mathlib.Decide.{dec_lt}
use native.Mathlib.Omega.{arith}
use borrow.Rule.Slice.PartMut.{put_mid}
use lib.Ieee.{Float}
use lib.Dec.{eqb}
use lib.ListN.{get_or, length, take, drop, length-take, length-drop}
use lib.Seq.{get_or-take, get_or-drop, ext_get_or}
use Rattle.memory.specs.rules.Lists.{table, occurs, total, greatest}
use Rattle.memory.specs.rules.Limits.{scratch_words}
use Rattle.memory.specs.rules.Words.{over}
use Rattle.memory.specs.rules.Records.{encoded}
use Rattle.memory.proofs.CountLaws.{occurs-by-place}
use Rattle.labelling.specs.rules.Components.{box_of}
use Rattle.labelling.specs.stages.Extraction.{Extracted}
use Rattle.labelling.specs.stages.Marked.{MarkedLeft}
use Rattle.labelling.specs.stages.Sizes.{HoldsRuns, HoldsNumbers, HoldsSizes, SizesLeft}
use Rattle.labelling.specs.declared.component.Component.{Component}
use Rattle.labelling.specs.declared.marked.Test.{Test}
use Rattle.labelling.specs.declared.marked.Test.TheVariants.{First, Second, Neither}
use Rattle.memory.proofs.PlaceLaws.{count_low}
use Rattle.params.specs.declared.LayoutParams.{LayoutParams}
use Rattle.rulings.specs.rules.Rulings.{run_min, thick_max, cut_horizontal, cut_vertical, after_cut}
use Rattle.rulings.specs.stages.Marks.{cut_mark, Blank, RulingsMarked}
use Rattle.sorting.specs.rules.Units.{unit_of, unit_value}
use Rattle.sorting.specs.rules.Kinds.{kind_of}
use Rattle.sorting.specs.rules.Sorted.{sorted}
use Rattle.sorting.specs.stages.Scratch.{SortRoom, marks_at, horizontal_at, vertical_at, sizes_at, kinds_at, packed, ink_after_cut}
use Rattle.sorting.specs.rules.Capacity.{most_components, components_of, most_cuts}
use Rattle.sorting.specs.declared.Unit.{Unit}
use Rattle.extents.proofs.OverLaws.{over-at, over-past}
use Rattle.memory.proofs.PartLaws.{get_or-part, length_part, length-put, get_or-put}
use Rattle.rulings.specs.declared.scanlines.Found.{Found}
use Rattle.rulings.proofs.RulingMasks.{after_cut-nothing}
use Rattle.sorting.specs.declared.sort.Cuts.{Cuts}
use Rattle.sorting.specs.declared.sort.SortCounts.{SortCounts}
use Rattle.std.specs.Prelude.{Option, Some, None}
use Rattle.memory.specs.stages.Stored.{Within, Stored}
use Rattle.sorting.specs.stages.Measures.{sized_at, sized_from, SizesInside, box_word}
use Rattle.sorting.specs.stages.SortSteps.{sort_left, FrameRoom, passed, CutLabelled, CutMarked, InkCut, FirstHeld, CutsHeld, RestHeld, rest_left}
use Rattle.memory.proofs.StoredLaws.{within-drop, stored-count}
use Rattle.sorting.proofs.SizedLaws.{held-table, held-inside, held-unit, held-kinds, held-boxes}
use Rattle.sorting.proofs.HeightLaws.{inside_past}
use Rattle.sorting.proofs.ComponentLaws.{box-inside, blank_none, areas-ink}
use Rattle.sorting.proofs.PlanLaws.{plan-dots, plan-down, plan-runs, frame-of, frame-kept}
use Rattle.sorting.proofs.CutLaws.{passed-same, passing-first, passing-second, passing-neither}

pub runs-held : {w h c : ℕ} {m s t : List ℕ} → Extracted w h m s t c → HoldsRuns w h m t c
runs-held E = record { count = E.count; runs = E.runs }

-- Words that stay

pub kept_from : (b : ℕ) (s t : List ℕ) → drop b t ≡ drop b s → (i : ℕ) → b ≤ i → get_or t i 0 ≡ get_or s i 0
kept_from b s t e i l =
    let z : i ≡ b + (i - b) = omega arith in
    ap (λ (k : ℕ). get_or t k 0) z ∙ (sym (get_or-drop b t (i - b) 0) ∙ (ap (λ (d : List ℕ). get_or d (i - b) 0) e ∙ (get_or-drop b s (i - b) 0 ∙ ap (λ (k : ℕ). get_or s k 0) (sym z))))

pub part-kept : (a n : ℕ) (s t : List ℕ) → length t ≡ length s → ((i : ℕ) → a ≤ i → i < a + n → get_or t i 0 ≡ get_or s i 0) → take n (drop a t) ≡ take n (drop a s)
part-kept a n s t e h =
    let x = length-take n (drop a t) in
    let y = length-take n (drop a s) in
    let u = length-drop a t in
    let v = length-drop a s in
    ext_get_or 0 (take n (drop a t)) (take n (drop a s)) (omega arith)
    (λ i l. get_or-take n (drop a t) i 0 (omega arith) ∙ (get_or-drop a t i 0 ∙ (h (a + i) (omega arith) (omega arith) ∙ (sym (get_or-drop a s i 0) ∙ sym (get_or-take n (drop a s) i 0 (omega arith))))))

pub numbers-kept : {w h a e c : ℕ} {m s t : List ℕ} → HoldsNumbers w h m s c → Within a e s t → 3 * c ≤ a → HoldsNumbers w h m t c
numbers-kept {c = c} {s = s} {t = t} N W l =
    record {
      held = record { count = N.held.count; runs = part-kept 0 (2 * c) s t W.len (λ i a b. W.before i (omega arith)) ∙ N.held.runs };
      numbers = λ k b. W.before (2 * c + k) (omega arith) ∙ N.numbers k b;
    }

-- One labelling

module _ {w h P : ℕ} {m₀ s₀ : List ℕ} (F : FrameRoom w h m₀ P s₀) {at : ℕ} (sizes_is : at ≡ sizes_at (w * h) P) {m s t : List ℕ} {c r : ℕ} (L : SizesLeft w h m s t c P (at) r) (len : length t ≡ length s₀) where
  pub left-count : r ≤ P → r ≡ length (components_of w h m)
  left-count l = let e = L.count in omega arith

  pub left-many : P < r → P < length (components_of w h m)
  left-many l = let e = L.count in omega arith

  pub left-inside : r ≤ P → SizesInside w h t (at) r
  left-inside l =
      subst (SizesInside w h t (at)) (sym (left-count l))
      (held-inside (components_of w h m) t (at) (L.sizes l) w h (let e = left-count l in let q = F.room in omega arith)
      (box-inside w h m F.wide (let d = plan-dots F in omega arith)))

  pub left-boxes : r ≤ P → SizesInside 32768 32768 t (at) r
  left-boxes l =
      let S = left-inside l in
      record {
        room = S.room;
        inside = λ k b. let B = S.inside k b in
            record {
              columns = B.columns;
              right = (let x = B.right in let y = F.narrow in omega arith);
              rows = B.rows;
              bottom = (let x = B.bottom in let y = F.low in omega arith);
            };
      }

  pub left-unit : (p : LayoutParams) → r ≤ P → unit_of p w h (sized_from t (at) r) ≡ unit_of p w h (components_of w h m)
  left-unit p l =
      ap (λ (k : ℕ). unit_of p w h (sized_from t (at) k)) (left-count l) ∙ held-unit p w h (components_of w h m) t (at) (L.sizes l)

  pub left-areas : r ≤ P → length m ≡ w * h → ((i : ℕ) → get_or m i 0 ≤ 1) → total (table (λ k. (sized_at t (at) k).area) r) ≡ occurs 1 m
  left-areas l whole ones =
      ap (λ (k : ℕ). total (table (λ k. (sized_at t (at) k).area) k)) (left-count l)
      ∙ (ap total (held-table (components_of w h m) t (at) (L.sizes l) (λ (z : Component). z.area) (λ z. refl))
      ∙ areas-ink w h m (let d = plan-dots F in omega arith) whole ones)

pub ink-few : (m : List ℕ) → occurs 1 m ≤ length m
ink-few m = let a = occurs-by-place 1 m in let b = count_low (λ i. eqb (get_or m i 0) 1) (length m) in omega arith

-- The cuts of one direction

-- where no dot passes nothing is labelled
pub cut-none : (t : Test) {w h P : ℕ} {m s : List ℕ} (to : ℕ) → Blank (passed t w h m s) (w * h) → CutLabelled t w h m P to s s 0
unfolding encoded
cut-none t {w} {h} {P} {m} {s} to none =
    let e : components_of w h (passed t w h m s) ≡ [] = blank_none w h (passed t w h m s) none in
    record {
      len = refl;
      count = (let z = ap length e in omega arith);
      boxes = λ z. subst (λ (cs : List Component). take (2 * length cs) (drop to s) ≡ encoded packed (map box_of cs)) (sym e) refl;
      before = λ i a b. refl;
    }

module _ (t : Test) {w h P : ℕ} {m s s₁ s₂ : List ℕ} {c r : ℕ} (F : FrameRoom w h m P s) {at : ℕ} (sizes_is : at ≡ sizes_at (w * h) P) (to : ℕ) (high : horizontal_at (w * h) ≤ to) (low : to + 2 * P ≤ at)
    (M : MarkedLeft t w h m s s₁ (marks_at (w * h)) c) (L : SizesLeft w h (passed t w h m s) s₁ s₂ c P at r) where
  kept : (i : ℕ) → marks_at (w * h) ≤ i → i < to → get_or s₂ i 0 ≡ get_or s i 0
  kept i a b = let q = plan-runs F M.held in L.between i (omega arith) (omega arith) ∙ kept_from (marks_at (w * h)) s s₁ M.kept i a

  pub cut-many : P < r → CutLabelled t w h m P to s s₂ r
  cut-many l = record { len = L.len ∙ M.len; count = L.count; boxes = λ z. absurd (omega arith); before = kept }

  pub cut-done : {s₃ : List ℕ} → r ≤ P → Stored (box_word s₂ at) to (2 * r) s₂ s₃ → CutLabelled t w h m P to s s₃ r
  cut-done {s₃} l S =
      let len : length s₂ ≡ length s = L.len ∙ M.len in
      let e : r ≡ length (components_of w h (passed t w h m s)) = left-count F sizes_is L len l in
      record {
        len = S.within.len ∙ len;
        count = L.count;
        boxes = λ z. held-boxes (components_of w h (passed t w h m s)) s₂ s₃ at to (L.sizes l) (let q = F.room in omega arith)
            (stored-count S (let x : 2 * r ≡ 2 * length (components_of w h (passed t w h m s)) = omega arith in x));
        before = λ i a b. S.within.before i b ∙ kept i a b;
      }

-- cuts labelled by the plan, with their boxes where they belong
pub cut_at : {t : Test} {w h P to at r : ℕ} {m s s' : List ℕ} → to ≡ at → CutLabelled t w h m P to s s' r → CutLabelled t w h m P at s s' r
cut_at {t} {w} {h} {P} {to} {at} {r} {m} {s} {s'} e = subst (λ (z : ℕ). CutLabelled t w h m P z s s' r) e

-- The ink after the cut

-- `rest` labelled and measured in s, and its kinds written; the boxes of cuts are those of s₀
module _ (p : LayoutParams) {w h P : ℕ} {rest s₀ s : List ℕ} (f : SortCounts) (room : scratch_words (w * h) P ≤ length s) (N : HoldsNumbers w h rest s f.runs) (few : 3 * f.runs ≤ 3 * (w * h))
    (Z : HoldsSizes (components_of w h rest) s (sizes_at (w * h) P)) (count : f.component_count ≡ length (components_of w h rest)) (most : f.component_count ≤ P) where
  pub rest-held : {t : List ℕ} (ink : ℕ) (cuts : Cuts) → f.unit ≡ unit_of p w h (components_of w h rest) → f.ink ≡ ink → f.horizontal ≡ cuts.horizontal → f.vertical ≡ cuts.vertical
      → ((i : ℕ) → horizontal_at (w * h) ≤ i → i < sizes_at (w * h) P → get_or s i 0 ≡ get_or s₀ i 0)
      → Stored (λ k. kind_of p (unit_value f.unit) w h (sized_at s (sizes_at (w * h) P) k)) (kinds_at (w * h) P) f.component_count s t → RestHeld p w h rest P ink cuts s₀ t f
  rest-held {t} ink cuts u ei eh ev kept S =
      let cs = components_of w h rest in
      record {
        few = omega arith;
        numbered = numbers-kept N S.within (omega arith);
        sizes = part-kept (sizes_at (w * h) P) (5 * length cs) s t S.within.len (λ i a b. S.within.before i (omega arith)) ∙ Z;
        kinds =
            held-kinds p (unit_value f.unit) w h cs s t (sizes_at (w * h) P) (kinds_at (w * h) P) Z (omega arith) (stored-count S count)
            ∙ ap (λ (v : Unit). map (kind_of p (unit_value v) w h) cs) u;
        kept = λ i a b. S.within.before i (omega arith) ∙ kept i a b;
        unit_is = u;
        ink_is = ei;
        horizontal_is = eh;
        vertical_is = ev;
        components_is = count;
      }

-- kinds stored by the plan are stored where they belong
kinds-at : (p : LayoutParams) (w h P : ℕ) (unit : Unit) (s t : List ℕ) (n : ℕ) {at kinds : ℕ} → at ≡ sizes_at (w * h) P → kinds ≡ kinds_at (w * h) P
    → Stored (λ k. kind_of p (unit_value unit) w h (sized_at s at k)) kinds n s t → Stored (λ k. kind_of p (unit_value unit) w h (sized_at s (sizes_at (w * h) P) k)) (kinds_at (w * h) P) n s t
kinds-at p w h P unit s t n {at} e d S =
    subst (λ (z : ℕ). Stored (λ k. kind_of p (unit_value unit) w h (sized_at s z k)) (kinds_at (w * h) P) n s t) e
    (subst (λ (z : ℕ). Stored (λ k. kind_of p (unit_value unit) w h (sized_at s at k)) z n s t) d S)

module _ (p : LayoutParams) {w h P : ℕ} {m s s₁ s₂ s₃ : List ℕ} {c r : ℕ} (F : FrameRoom w h m P s) {at d : ℕ} (sizes_is : at ≡ sizes_at (w * h) P) (dots_is : d ≡ w * h) (M : MarkedLeft Neither w h m s s₁ (marks_at (w * h)) c)
    (L : SizesLeft w h (passed Neither w h m s) s₁ s₂ c P at r) (l : r ≤ P) (W : Within (3 * d) (3 * d + h + 1) s₂ s₃) where
  pub rest-inside : 3 * d + h + 1 ≤ at → SizesInside w h s₃ at r
  rest-inside k = inside_past (left-inside F sizes_is L (L.len ∙ M.len) l) W k

  pub rest-done : {s₄ : List ℕ} {kinds : ℕ} → kinds ≡ kinds_at (w * h) P → (unit : Unit) (ink : ℕ) (cuts : Cuts) → 3 * d + h + 1 ≤ horizontal_at (w * h) → unit ≡ unit_of p w h (sized_from s₂ at r)
      → Stored (λ k. kind_of p (unit_value unit) w h (sized_at s₃ at k)) kinds r s₃ s₄
      → RestHeld p w h (passed Neither w h m s) P ink cuts s s₄ (record { unit = unit; ink = ink; horizontal = cuts.horizontal; vertical = cuts.vertical; runs = c; component_count = r })
  rest-done {s₄} kinds_is unit ink cuts k ue S =
      let len : length s₂ ≡ length s = L.len ∙ M.len in
      let cs = components_of w h (passed Neither w h m s) in
      let held₃ : HoldsSizes cs s₃ (sizes_at (w * h) P) = ap (take (5 * length cs)) (within-drop W (sizes_at (w * h) P) (omega arith)) ∙ subst (HoldsSizes cs s₂) sizes_is (L.sizes l) in
      let q = F.room in
      let x = plan-runs F M.held in
      let y = W.len in
      rest-held p (record { unit = unit; ink = ink; horizontal = cuts.horizontal; vertical = cuts.vertical; runs = c; component_count = r }) (omega arith) (numbers-kept (L.numbered l) W (omega arith)) x held₃
      (left-count F sizes_is L len l) l ink cuts (ue ∙ left-unit F sizes_is L len p l) refl refl refl
      (λ i a b. W.past i (omega arith) ∙ (L.between i (omega arith) (omega arith) ∙ kept_from (marks_at (w * h)) s s₁ M.kept i (omega arith))) (kinds-at p w h P unit s₃ s₄ r sizes_is kinds_is S)

-- Both kinds of cuts, by the marks that thin rulings leave

pub cut-marked : {run_min thick_max w h : ℕ} {m s₀ s : List ℕ} {found : Found} {marks : ℕ} → marks ≡ marks_at (w * h) → RulingsMarked run_min thick_max w h m marks s₀ s found → CutMarked run_min thick_max w h m s found
cut-marked {run_min} {thick_max} {w} {h} {m} {s₀} {s} {found} e R₀ =
    let R = subst (λ (k : ℕ). RulingsMarked run_min thick_max w h m k s₀ s found) e R₀ in
    record {
      each = λ i b. ap (λ (d : List ℕ). get_or d i 0) R.marked ∙ over-at (cut_mark run_min thick_max w h m) (w * h) (drop (marks_at (w * h)) s₀) i b;
      no_horizontal = R.no_horizontal;
      no_vertical = R.no_vertical;
    }

-- the marks of a part that starts at word `at`, when it is back
pub ink-cut : {run_min thick_max w h : ℕ} {m : List ℕ} {found : Found} (at : ℕ) (s t : List ℕ) {marks : ℕ} → marks ≡ marks_at (w * h) → at ≤ marks → horizontal_at (w * h) ≤ length s
    → RulingsMarked run_min thick_max w h m (marks - at) (take (length s - at) (drop at s)) t found → InkCut run_min thick_max w h m at s (put_mid at (length s - at) s t) found
ink-cut {run_min} {thick_max} {w} {h} {m} {found} at s t marks_is low₀ high R₀ =
    record {
      marked = record { each = each; no_horizontal = R.no_horizontal; no_vertical = R.no_vertical };
      within = record { len = length-put at (length s) s t (omega arith) (le_refl _) size; before = λ i a. (put i).0 a; past = λ i a. past i a (dec_lt i (length s)) };
    }
  where
    low : at ≤ marks_at (w * h)
    low = omega arith

    R : RulingsMarked run_min thick_max w h m (marks_at (w * h) - at) (take (length s - at) (drop at s)) t found
    R = subst (λ (k : ℕ). RulingsMarked run_min thick_max w h m (k - at) (take (length s - at) (drop at s)) t found) marks_is R₀

    f : ℕ → ℕ
    f = cut_mark run_min thick_max w h m

    part : List ℕ
    part = take (length s - at) (drop at s)

    size : length t ≡ length s - at
    size = R.len ∙ length_part at (length s) s (omega arith) (le_refl _)

    put : (k : ℕ) → (k < at → get_or (put_mid at (length s - at) s t) k 0 ≡ get_or s k 0) × (at ≤ k → k < length s → get_or (put_mid at (length s - at) s t) k 0 ≡ get_or t (k - at) 0) × (length s ≤ k → get_or (put_mid at (length s - at) s t) k 0 ≡ get_or s k 0)
    put = get_or-put at (length s) s t (omega arith) (le_refl _) size

    -- a word from the marks on, by its place behind them
    behind : (i : ℕ) → marks_at (w * h) + i < length s → get_or (put_mid at (length s - at) s t) (marks_at (w * h) + i) 0 ≡ get_or (over (table f (w * h)) (drop (marks_at (w * h) - at) part)) i 0
    behind i b =
        let z : marks_at (w * h) + i - at ≡ marks_at (w * h) - at + i = omega arith in
        (put (marks_at (w * h) + i)).1 (omega arith) b
        ∙ (ap (λ (k : ℕ). get_or t k 0) z ∙ (sym (get_or-drop (marks_at (w * h) - at) t i 0) ∙ ap (λ (d : List ℕ). get_or d i 0) R.marked))

    each : (i : ℕ) → i < w * h → get_or (drop (marks_at (w * h)) (put_mid at (length s - at) s t)) i 0 ≡ f i
    each i b = get_or-drop (marks_at (w * h)) (put_mid at (length s - at) s t) i 0 ∙ (behind i (omega arith) ∙ over-at f (w * h) (drop (marks_at (w * h) - at) part) i b)

    past : (i : ℕ) → horizontal_at (w * h) ≤ i → Dec (i < length s) → get_or (put_mid at (length s - at) s t) i 0 ≡ get_or s i 0
    past i a (no b) = (put i).2 (omega arith)
    past i a (yes b) =
        let x : i ≡ marks_at (w * h) + (i - marks_at (w * h)) = omega arith in
        let y : at + (marks_at (w * h) - at + (i - marks_at (w * h))) ≡ i = omega arith in
        ap (λ (k : ℕ). get_or (put_mid at (length s - at) s t) k 0) x
        ∙ (behind (i - marks_at (w * h)) (omega arith)
        ∙ (over-past f (w * h) (drop (marks_at (w * h) - at) part) (i - marks_at (w * h)) (omega arith)
        ∙ (get_or-drop (marks_at (w * h) - at) part (i - marks_at (w * h)) 0
        ∙ (get_or-part at (length s - at) s (marks_at (w * h) - at + (i - marks_at (w * h))) (omega arith) ∙ ap (λ (k : ℕ). get_or s k 0) y))))

-- labelling the horizontal cuts leaves the marks
pub still-blank : (t : Test) {w h P r : ℕ} {m s s' : List ℕ} → CutLabelled First w h m P (horizontal_at (w * h)) s s' r → Blank (passed t w h m s) (w * h) → Blank (passed t w h m s') (w * h)
still-blank t {w} {h} {m = m} {s = s} {s' = s'} A none = subst (λ (b : List ℕ). Blank b (w * h)) (sym (passed-same t w h m s s' A.before)) none

module _ {run_min thick_max w h : ℕ} {m s : List ℕ} {found : Found} (wide : 0 < w) (T : CutMarked run_min thick_max w h m s found) where
  pub told-first : found.horizontal ≡ false → Blank (passed First w h m s) (w * h)
  told-first e = subst (λ (a : List ℕ). Blank a (w * h)) (sym (passing-first run_min thick_max w h m (drop (marks_at (w * h)) s) T.each wide)) (T.no_horizontal e)

  pub told-second : found.vertical ≡ false → Blank (passed Second w h m s) (w * h)
  told-second e = subst (λ (b : List ℕ). Blank b (w * h)) (sym (passing-second run_min thick_max w h m (drop (marks_at (w * h)) s) T.each wide)) (T.no_vertical e)

module _ (run_min thick_max : ℕ) {w h P : ℕ} {m s s₁ : List ℕ} {found : Found} {r₁ : ℕ} (F : FrameRoom w h m P s) (T : CutMarked run_min thick_max w h m s found)
    (A : CutLabelled First w h m P (horizontal_at (w * h)) s s₁ r₁) where
  abbrev masks : List ℕ × List ℕ
  masks = (cut_horizontal run_min thick_max w h m, cut_vertical run_min thick_max w h m)

  marks-kept : (t : Test) → passed t w h m s₁ ≡ passed t w h m s
  marks-kept t = passed-same t w h m s s₁ A.before

  first-mask : passed First w h m s ≡ masks.0
  first-mask = passing-first run_min thick_max w h m (drop (marks_at (w * h)) s) T.each F.wide

  first_count : r₁ ≡ min (length (components_of w h masks.0)) (P + 1)
  first_count = subst (λ (a : List ℕ). r₁ ≡ min (length (components_of w h a)) (P + 1)) first-mask A.count

  pub cuts_first : P < r₁ → P < most_cuts run_min thick_max w h m
  unfolding greatest
  cuts_first l = let e = first_count in omega arith

  module _ {s₂ : List ℕ} {r₂ : ℕ} (B : CutLabelled Second w h m P (vertical_at (w * h) P) s₁ s₂ r₂) where
    second-mask : passed Second w h m s₁ ≡ masks.1
    second-mask = marks-kept Second ∙ passing-second run_min thick_max w h m (drop (marks_at (w * h)) s) T.each F.wide

    second-count : r₂ ≡ min (length (components_of w h masks.1)) (P + 1)
    second-count = subst (λ (b : List ℕ). r₂ ≡ min (length (components_of w h b)) (P + 1)) second-mask B.count

    pub cuts-second : P < r₂ → P < most_cuts run_min thick_max w h m
    unfolding greatest
    cuts-second l = let e = second-count in omega arith

    pub cuts-done : r₁ ≤ P → r₂ ≤ P → CutsHeld run_min thick_max w h m P s₂ (record { horizontal = r₁; vertical = r₂ })
    unfolding greatest
    cuts-done l₁ l₂ =
        let a = components_of w h masks.0 in
        let b = components_of w h masks.1 in
        let ea : r₁ ≡ length a = (let e = first_count in omega arith) in
        let eb : r₂ ≡ length b = (let e = second-count in omega arith) in
        let boxes-first : take (2 * length a) (drop (horizontal_at (w * h)) s₁) ≡ encoded packed (map box_of a) =
        subst (λ (z : List ℕ). take (2 * length (components_of w h z)) (drop (horizontal_at (w * h)) s₁) ≡ encoded packed (map box_of (components_of w h z))) first-mask (A.boxes l₁) in
        record {
          few = omega arith;
          horizontal = part-kept (horizontal_at (w * h)) (2 * length a) s₁ s₂ B.len (λ i c d. B.before i (omega arith) (omega arith)) ∙ boxes-first;
          vertical = subst (λ (z : List ℕ). take (2 * length (components_of w h z)) (drop (vertical_at (w * h) P) s₂) ≡ encoded packed (map box_of (components_of w h z))) second-mask (B.boxes l₂);
          rest =
              passed-same Neither w h m s₁ s₂ (λ i c d. B.before i c (omega arith))
              ∙ (marks-kept Neither ∙ passing-neither run_min thick_max w h m (drop (marks_at (w * h)) s) T.each F.wide);
          horizontal_is = ea;
          vertical_is = eb;
        }

-- The whole

module _ (p : LayoutParams) (w h : ℕ) (m : List ℕ) (P : ℕ) where
  abbrev first_unit : Float
  first_unit = unit_value (unit_of p w h (components_of w h m))

  pub sort-many : P < length (components_of w h m) → P < most_components (sorted p w h m)
  unfolding sorted greatest
  sort-many l = omega arith

  cuts-many : P < most_cuts (run_min p first_unit) (thick_max p first_unit) w h m → P < most_components (sorted p w h m)
  unfolding sorted greatest
  cuts-many l = omega arith

  module _ (run thick : ℕ) (er : run ≡ run_min p first_unit) (et : thick ≡ thick_max p first_unit) where
    pub sort-cuts-many : P < most_cuts run thick w h m → P < most_components (sorted p w h m)
    sort-cuts-many l = cuts-many (subst (λ (k : ℕ). P < k) (λ i. most_cuts (er i) (et i) w h m) l)

    module _ (f : Cuts) (s : List ℕ) (C : CutsHeld run thick w h m P s f) (ink : ℕ) (s' : List ℕ) (len : length s' ≡ length s) (l : length (components_of w h m) ≤ P) (e : ink ≡ occurs 1 m) where
      held : CutsHeld (run_min p first_unit) (thick_max p first_unit) w h m P s f
      held = subst (λ (k : ℕ). CutsHeld (run_min p first_unit) k w h m P s f) et (subst (λ (k : ℕ). CutsHeld k thick w h m P s f) er C)

      sort-by : (r : Option SortCounts) → rest_left r p w h (ink_after_cut p w h m) P ink f s s' → sort_left r p w h m P s'
      unfolding sorted greatest ink_after_cut
      sort-by None z = omega arith
      sort-by (Some g) R =
          let a = components_of w h (cut_horizontal (run_min p first_unit) (thick_max p first_unit) w h m) in
          let b = components_of w h (cut_vertical (run_min p first_unit) (thick_max p first_unit) w h m) in
          let x = held.few in
          let y = R.few in
          record {
            few = omega arith;
            held = record {
              numbered = R.numbered;
              sizes = R.sizes;
              kinds = R.kinds;
              horizontal = part-kept (horizontal_at (w * h)) (2 * length a) s s' len (λ i c d. R.kept i c (omega arith)) ∙ held.horizontal;
              vertical = part-kept (vertical_at (w * h) P) (2 * length b) s s' len (λ i c d. R.kept i (omega arith) (omega arith)) ∙ held.vertical;
            };
            figures = record {
              unit_is = R.unit_is;
              ink_is = R.ink_is ∙ e;
              horizontal_is = R.horizontal_is ∙ held.horizontal_is;
              vertical_is = R.vertical_is ∙ held.vertical_is;
              components_is = R.components_is;
            };
          }

      -- where nothing is cut the ink after the cut is the ink
      pub sort-still : (r : Option SortCounts) → ink_after_cut p w h m ≡ m → rest_left r p w h m P ink f s s' → sort_left r p w h m P s'
      sort-still r z R = sort-by r (subst (λ (k : List ℕ). rest_left r p w h k P ink f s s') (sym z) R)

      pub sort-done : (r : Option SortCounts) → rest_left r p w h (passed Neither w h m s) P ink f s s' → sort_left r p w h m P s'
      unfolding ink_after_cut
      sort-done r R = sort-by r (subst (λ (z : List ℕ). rest_left r p w h z P ink f s s') held.rest R)

-- The ink before the cut

module _ (p : LayoutParams) {w h P : ℕ} {m s₀ s t u : List ℕ} {c r : ℕ} (R : SortRoom p w h m P s₀) {at d : ℕ} (sizes_is : at ≡ sizes_at (w * h) P) (dots_is : d ≡ w * h) (H : HoldsRuns w h m s c) (L : SizesLeft w h m s t c P at r) (len : length t ≡ length s₀) (l : r ≤ P)
    (W : Within (3 * d) (3 * d + h + 1) t u) where
  pub first-held : (unit : Unit) (ink : ℕ) → unit ≡ unit_of p w h (sized_from t at r) → ink ≡ total (table (λ k. (sized_at t at k).area) r)
      → FirstHeld p w h m P u (record { unit = unit; ink = ink; horizontal = 0; vertical = 0; runs = c; component_count = r })
  first-held unit ink eu ei =
      let F = frame-of R in
      let x = plan-runs F H in
      let y = plan-down F in
      record {
        few = l;
        numbered = numbers-kept (L.numbered l) W (omega arith);
        sizes = ap (take (5 * length (components_of w h m))) (within-drop W (sizes_at (w * h) P) (omega arith)) ∙ subst (HoldsSizes (components_of w h m) t) sizes_is (L.sizes l);
        unit_is = eu ∙ left-unit F sizes_is L len p l;
        ink_is = ei ∙ left-areas F sizes_is L len l R.whole R.ones;
        horizontal_is = refl;
        vertical_is = refl;
        components_is = left-count F sizes_is L len l;
      }

module _ (p : LayoutParams) {w h P : ℕ} {m s : List ℕ} {f : SortCounts} (R : SortRoom p w h m P s) (H : FirstHeld p w h m P s f) where
  pub first_runs : 3 * f.runs ≤ 3 * (w * h)
  first_runs = plan-runs (frame-of R) H.numbered.held

  module _ {at : ℕ} {s₁ : List ℕ} {found : Found} (u : Float) (eu : u ≡ unit_value f.unit) (C : InkCut (run_min p u) (thick_max p u) w h m at s s₁ found) where
    first-sizes : HoldsSizes (components_of w h m) s₁ (sizes_at (w * h) P)
    first-sizes = ap (take (5 * length (components_of w h m))) (within-drop C.within (sizes_at (w * h) P) (omega arith)) ∙ H.sizes

    pub first_inside : {at : ℕ} → at ≡ sizes_at (w * h) P → SizesInside w h s₁ at f.component_count
    first_inside e₀ =
        let F = frame-of R in
        subst (λ (z : ℕ). SizesInside w h s₁ z f.component_count) (sym e₀)
        (subst (SizesInside w h s₁ (sizes_at (w * h) P)) (sym H.components_is)
        (held-inside (components_of w h m) s₁ (sizes_at (w * h) P) first-sizes w h (let e = H.components_is in let k = H.few in let q = R.room in let z = C.within.len in omega arith)
        (box-inside w h m R.wide (let d = plan-dots F in omega arith))))

    value : u ≡ unit_value (unit_of p w h (components_of w h m))
    value = eu ∙ ap unit_value H.unit_is

    pub first-many : P < most_cuts (run_min p u) (thick_max p u) w h m → P < most_components (sorted p w h m)
    first-many = sort-cuts-many p w h m P (run_min p u) (thick_max p u) (ap (run_min p) value) (ap (thick_max p) value)

    -- what was cut is labelled, and the rest anew
    pub first_done : {s₂ : List ℕ} (cuts : Cuts) → CutsHeld (run_min p u) (thick_max p u) w h m P s₂ cuts → (s₃ : List ℕ) → length s₃ ≡ length s₂ → (r : Option SortCounts)
        → rest_left r p w h (passed Neither w h m s₂) P f.ink cuts s₂ s₃ → sort_left r p w h m P s₃
    first_done {s₂} cuts K s₃ len r X =
        sort-done p w h m P (run_min p u) (thick_max p u) (ap (run_min p) value) (ap (thick_max p) value) cuts s₂ K f.ink s₃ len (let a = H.few in let b = H.components_is in omega arith) H.ink_is r X

    -- nothing is cut, and the first labelling stands
    pub first-still : {s₂ : List ℕ} {at₀ kinds : ℕ} → at₀ ≡ sizes_at (w * h) P → kinds ≡ kinds_at (w * h) P → 3 * f.runs ≤ at → found.horizontal ≡ false → found.vertical ≡ false
        → Stored (λ k. kind_of p (unit_value f.unit) w h (sized_at s₁ at₀ k)) kinds f.component_count s₁ s₂ → sort_left (Some f) p w h m P s₂
    unfolding ink_after_cut
    first-still {s₂} sizes_is kinds_is behind none-h none-v S =
        let F = frame-kept (frame-of R) C.within.len in
        let T = C.marked in
        let K = cuts-done (run_min p u) (thick_max p u) F T (cut-none First (horizontal_at (w * h)) (told-first R.wide T none-h)) (cut-none Second (vertical_at (w * h) P) (told-second R.wide T none-v)) (omega arith) (omega arith) in
        let z : ink_after_cut p w h m ≡ m =
        subst (λ (v : Float). after_cut w h (cut_horizontal (run_min p v) (thick_max p v) w h m) (cut_vertical (run_min p v) (thick_max p v) w h m) m ≡ m) value
        (after_cut-nothing w h _ _ m R.wide R.whole R.ones (T.no_horizontal none-h) (T.no_vertical none-v)) in
        let q = R.room in
        let x = C.within.len in
        sort-still p w h m P (run_min p u) (thick_max p u) (ap (run_min p) value) (ap (thick_max p) value) _ s₁ K f.ink s₂ S.within.len (let a = H.few in let b = H.components_is in omega arith) H.ink_is (Some f) z
        (rest-held p f (omega arith) (numbers-kept H.numbered C.within behind) first_runs first-sizes H.components_is H.few f.ink _ H.unit_is refl H.horizontal_is H.vertical_is (λ i a b. refl) (kinds-at p w h P f.unit s₁ s₂ f.component_count sizes_is kinds_is S))
