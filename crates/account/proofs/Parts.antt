-- What the theorem is put together from: 16 is never told, ink dots pair one to one, the results are those of the rules.
use mathlib.Core.Path.{◌≡◌, refl, sym, ap, ◌∙◌, subst}
use mathlib.Core.Bool.{Bool, true, false, not, true≢false}
use mathlib.Core.List.{List}
use Prim.Native.Nat.{ℕ, ◌+◌, ◌*◌, ◌≤◌, ◌<◌}
use native.Mathlib.Omega.{arith}
use borrow.Author.Tests.{eq-eqb}
use lib.Dec.{eqb, ltb}
use lib.ListN.{get_or}
use lib.Seq.{get_or-take}
use Rattle.memory.specs.rules.Lists.{occurs}
use Rattle.memory.specs.rules.Masks.{is_ink}
use Rattle.params.specs.declared.LayoutParams.{LayoutParams}
use Rattle.levelling.specs.rules.Frames.{Frame}
use Rattle.levelling.proofs.PairTheorems.{plane-pairs}
use Rattle.sorting.specs.rules.Sorted.{sorted, kind_counts}
use Rattle.sorting.proofs.KindLaws.{KindOfDot, kind-of-dot, kinds-add-up}
use Rattle.sorting.proofs.KindLaws.KindOfDot.{blank, ink}
use Rattle.segmenting.specs.rules.Layouts.{Layout, layout, layout_refusal}
use Rattle.segmenting.specs.rules.Figures.{figures_of, figure_words}
use Rattle.judging.specs.rules.Header.{segmented_state}
use Rattle.judging.specs.rules.Leaves.{Leaf, levelling_of, layout_of}
use Rattle.judging.specs.rules.Views.{view_of, view_of_layout}
use Rattle.judging.specs.rules.Spoiled.{limits_ok}
use Rattle.judging.proofs.PartLaws.{part-word}
use Rattle.store.proofs.HeaderLaws.{sides, held-is, limits-pass, ink_is, page_wide, page_high}
use Rattle.store.proofs.StoreLaws.{view-is}
use Rattle.store.proofs.LayoutLaws.{kinds-are}
use Rattle.store.proofs.InkLaws.{leaf_dots, ink-long, ink-ones, ink-count, frame-holds-page, frame_small}
use Rattle.store.proofs.ChainLaws.{refuse-not, level-never, segment-never, result-never, reading-never, clear-never}
use Rattle.account.specs.rules.Calls.{Lent, Act, World}
use Rattle.account.specs.rules.Calls.Act.{level, segment, clear, read_level, read_result}
use Rattle.account.specs.rules.Accounts.{Account, held_by, pieces_by, tell}
use Rattle.account.specs.rules.Accounts.Account.{nothing, levelled, segmented}
use Rattle.account.specs.rules.Claims.{Inked, OneSort, dots_word}
use Rattle.account.proofs.Agree.{LevelKept, ResultKept, Kept}

-- ---- 16 is never told

state-low : (m : Account) → (held_by m).state ≤ 2
state-low nothing = omega arith
state-low (levelled a) = omega arith
state-low (segmented a sheet) = omega arith

limits-hold : (m : Account) (v : World) → Kept m v → ((held_by m).state ≡ 0 → ⊥) → limits_ok (held_by m) ≡ true
limits-hold nothing v k n = absurd (n refl)
limits-hold (levelled a) v k n = limits-pass a k.accepted 1
limits-hold (segmented a sheet) v k n = limits-pass a k.0.accepted 2

pieces-never : (P : ℕ) (y : Layout) → layout_refusal P y ≡ 16 → ⊥
unfolding layout_refusal
pieces-never P y = refuse-not 16 _ 20 _ (omega arith) (refuse-not 16 _ 21 _ (omega arith) (omega arith))

told-pieces : (m : Account) (sheet : LayoutParams) → pieces_by m sheet ≡ 16 → ⊥
told-pieces nothing sheet = omega arith
told-pieces (levelled a) sheet = pieces-never a.capacity (layout_of a sheet)
told-pieces (segmented a old) sheet = pieces-never a.capacity (layout_of a sheet)

pub never : (m : Account) (v : World) (l : Lent) (act : Act) → Kept m v → tell m l act ≡ 16 → ⊥
never m v l (level a) k = level-never a l.store l.ink (held_by m).state (state-low m)
never m v l (segment sheet x) k =
    segment-never sheet l.store l.ink l.kinds x (held_by m) (pieces_by m sheet) (state-low m)
    (λ e. limits-hold m v k (λ z. true≢false (sym (eq-eqb _ 0 z) ∙ e))) (told-pieces m sheet)
never m v l clear k = clear-never l.store
never m v l (read_level q) k =
    reading-never l.store (held_by m) _ _ (state-low m) (λ e. limits-hold m v k (λ z. true≢false (sym (eq-eqb _ 0 z) ∙ e)))
never m v l (read_result q) k =
    result-never l.store l.ink l.kinds _ (held_by m) _ _ (state-low m)
    (λ e. limits-hold m v k (λ z. true≢false (sym (ap (λ n. not (eqb n segmented_state)) z) ∙ e)))

-- ---- the ink plane

module _ (st : ℕ) (a : Leaf) (v : World) (K : LevelKept st a v) where
  f : Frame
  f = (levelling_of a).frame

  dot_at : (i : ℕ) → i < leaf_dots a → get_or v.ink i 0 ≡ get_or (levelling_of a).ink i 0
  dot_at i l = sym (get_or-take (leaf_dots a) v.ink i 0 l) ∙ ap (λ (z : List ℕ). get_or z i 0) K.ink

  pub inked : Inked a v
  unfolding f
  inked =
      let A = K.accepted in
      record {
        plane = K.ink;
        pairs =
            plane-pairs (levelling_of a).frame (frame-holds-page a) a.mask v.ink (subst (λ n. 0 < n) (sym (page_wide a)) (sides a A).wide)
            (A.whole ∙ (λ i. sym (page_wide a) i * sym (page_high a) i)) (K.ink ∙ ink_is a);
      }

-- ---- results

module _ (a : Leaf) (sheet : LayoutParams) (v : World) (K : LevelKept 2 a v) (R : ResultKept a sheet v) where
  pub by_rules : view_of v.store v.kinds ≡ view_of_layout (levelling_of a).frame (levelling_of a).skew (layout_of a sheet)
  by_rules = view-is a (layout_of a sheet) v.store v.kinds (held-is a K.accepted 2 v.store K.state K.store.words) R.results R.kinds

  kind_at : (i : ℕ) → i < leaf_dots a → KindOfDot (is_ink (levelling_of a).ink i) (get_or v.kinds i 0)
  kind_at i l =
      let w = (levelling_of a).frame.w in
      let h = (levelling_of a).frame.h in
      subst (KindOfDot (is_ink (levelling_of a).ink i))
      (ap (λ (z : List ℕ). get_or z i 0) (sym (kinds-are sheet w h (levelling_of a).ink) ∙ sym R.kinds) ∙ get_or-take (leaf_dots a) v.kinds i 0 l)
      (kind-of-dot sheet w h (levelling_of a).ink (frame_small a K.accepted).wide i l)

  ink-kind : (b : Bool) (k : ℕ) → KindOfDot b k → b ≡ true → (0 < k) × (k ≤ 5)
  ink-kind false k blank e = absurd (true≢false (sym e))
  ink-kind true k (ink x y) e = (x, y)

  blank-kind : (b : Bool) (k : ℕ) → KindOfDot b k → b ≡ false → k ≡ 0
  blank-kind false k blank e = refl
  blank-kind true k (ink x y) e = absurd (true≢false e)

  pub one_sort : OneSort ((levelling_of a).frame.w * (levelling_of a).frame.h) v.ink v.kinds
  unfolding is_ink
  one_sort =
      record {
        sorted = λ i l e. ink-kind (is_ink (levelling_of a).ink i) (get_or v.kinds i 0) (kind_at i l) (ap (λ z. ltb 0 z) (sym (dot_at 2 a v K i l) ∙ e));
        blank = λ i l e. blank-kind (is_ink (levelling_of a).ink i) (get_or v.kinds i 0) (kind_at i l) (ap (λ z. ltb 0 z) (sym (dot_at 2 a v K i l) ∙ e));
      }

  -- the words of the dots
  word : (j : ℕ) → j < 15 → get_or v.store (10 + j) 0 ≡ get_or (figure_words (figures_of (layout_of a sheet))) j 0
  word j l = sym (part-word 10 15 v.store j l) ∙ ap (λ (z : List ℕ). get_or z j 0) R.results.figures

  pub ink-word : dots_word v 0 ≡ occurs 1 a.mask
  unfolding figure_words layout
  ink-word = word 9 (omega arith) ∙ ink-count a K.accepted

  pub sum-words : occurs 1 a.mask ≡ dots_word v 1 + dots_word v 2 + dots_word v 3 + dots_word v 4 + dots_word v 5
  unfolding figure_words layout kind_counts
  sum-words =
      let w = (levelling_of a).frame.w in
      let h = (levelling_of a).frame.h in
      let m = (levelling_of a).ink in
      let plane = (sorted sheet w h m).plane in
      let e = ink-count a K.accepted in
      let t : occurs 1 plane + occurs 2 plane + occurs 3 plane + occurs 4 plane + occurs 5 plane ≡ occurs 1 m =
      kinds-add-up sheet w h m (frame_small a K.accepted).wide (ink-long a) (ink-ones a K.accepted) in
      let w₁ : dots_word v 1 ≡ occurs 1 plane = word 10 (omega arith) in
      let w₂ : dots_word v 2 ≡ occurs 2 plane = word 11 (omega arith) in
      let w₃ : dots_word v 3 ≡ occurs 3 plane = word 12 (omega arith) in
      let w₄ : dots_word v 4 ≡ occurs 4 plane = word 13 (omega arith) in
      let w₅ : dots_word v 5 ≡ occurs 5 plane = word 14 (omega arith) in
      omega arith
