-- The entries: what they judge and write is what their outcomes say.
use mathlib.Core.Path.{◌≡◌, refl, sym, ap, ◌∙◌, subst}
use mathlib.Core.Bool.{Bool, true, false, cond, ◌&&◌}
use mathlib.Core.List.{List, [], ◌∷◌, ◌++◌}
use Prim.Native.Nat.{ℕ, ◌+◌, ◌*◌, ◌≤◌, ◌<◌}
use native.Mathlib.Nat.{not-suc-le-zero}
use native.Mathlib.Omega.{arith}
use borrow.Author.Tests.{lt-ltb, le-ltb, eqb-true, ne_eqb, leb-true, ltb-true, ltb-false, not-false}
use lib.Dec.{T, ltb, leb}
use lib.Ieee.{Float, le, fin}
use lib.IntN.{pos}
use lib.ListN.{length, set}
use Rattle.memory.specs.rules.Limits.{store_words, max_capacity}
use Rattle.memory.specs.rules.Refusals.{refuse_if}
use Rattle.memory.specs.rules.Words.{word_at, over, put_at}
use Rattle.memory.proofs.BoolLaws.{and_left, and_right}
use Rattle.memory.proofs.RefusalLaws.{refusal-passed, Passes, passes_none, passes-if}
use Rattle.rounding.specs.rules.Drift.{WithinOne}
use Rattle.rounding.specs.rules.Rounding.{positive_zero}
use Rattle.params.specs.declared.LayoutParams.{LayoutParams}
use Rattle.levelling.specs.rules.Frames.{Frame, PageSides, frame}
use Rattle.levelling.specs.rules.Planes.{levelling, levelled}
use Rattle.levelling.specs.rules.Shears.{applied}
use Rattle.judging.specs.rules.Leaves.{Leaf, levelling_of}
use Rattle.store.specs.rules.Written.{head_words, store_levelled}
use Rattle.judging.specs.rules.Spoiled.{side_ok, slope_ok}
use Rattle.judging.specs.rules.Refusals.{leaf_refusal, place_refusal, level_refusal, clear_refusal}
use Rattle.store.proofs.HeaderLaws.{zero-slope}
use Rattle.store.proofs.ChainLaws.{or_left, or_right}
use Rattle.store.specs.rules.Outcomes.{left, settled, level_left, clear_left}

-- ---- clearing

pub clear-no : (s : List ℕ) → length s < 1 → left 9 s [] ≡ clear_left s
unfolding clear_left settled clear_refusal refuse_if
clear-no s h = simp (lt-ltb (length s) 1 h)

front-word : (s : List ℕ) → 1 ≤ length s → set s 0 0 ≡ over (0 ∷ []) s
front-word [] h = absurd (not-suc-le-zero h)
front-word (x ∷ s) h = refl

pub clear-yes : (s : List ℕ) → 1 ≤ length s → left 0 (set s 0 0) [] ≡ clear_left s
unfolding clear_left settled clear_refusal refuse_if
clear-yes s h = simp (le-ltb (length s) 1 h) (ap (λ (z : List ℕ). left 0 z []) (front-word s h))

-- ---- levelling: what is handed

leaf-passes : (a : Leaf) → Passes (leaf_refusal a)
unfolding leaf_refusal
leaf-passes a =
    passes-if _ 0 (passes-if _ 1 (passes-if _ 2 (passes-if _ 3 (passes-if _ 4 (passes-if _ 5 (passes-if _ 6 passes_none))))))

-- a leaf that is handed well
pub record Handed (a : Leaf) : Type 0 where
  pub sides : PageSides a.w a.h
  pub whole : length a.mask ≡ a.w * a.h
  pub slope-in : slope_ok a.slope ≡ true
  pub few : a.capacity ≤ max_capacity

pub leaf-handed : (a : Leaf) → leaf_refusal a 0 ≡ 0 → Handed a
unfolding leaf_refusal
leaf-handed a e =
    let t₁ = refusal-passed _ 0 _ e in
    let t₂ = refusal-passed _ 1 _ t₁.later in
    let t₃ = refusal-passed _ 2 _ t₂.later in
    let t₄ = refusal-passed _ 3 _ t₃.later in
    let t₅ = refusal-passed _ 4 _ t₄.later in
    let t₆ = refusal-passed _ 5 _ t₅.later in
    let t₇ = refusal-passed _ 6 _ t₆.later in
    let w = or_left (side_ok a.w) (side_ok a.h) t₁.passed in
    let h = or_right (side_ok a.w) (side_ok a.h) t₁.passed in
    record {
      sides =
          record {
            wide = ltb-true 0 a.w (and_left (ltb 0 a.w) (leb a.w 8192) w);
            high = ltb-true 0 a.h (and_left (ltb 0 a.h) (leb a.h 8192) h);
            w_fits = leb-true a.w 8192 (and_right (ltb 0 a.w) (leb a.w 8192) w);
            h_fits = leb-true a.h 8192 (and_right (ltb 0 a.h) (leb a.h 8192) h);
          };
      whole = eqb-true _ _ (not-false _ t₂.passed);
      slope-in = not-false _ t₅.passed;
      few = leb-true a.capacity 65535 (and_right (ltb 0 a.capacity) (leb a.capacity 65535) (not-false _ t₇.passed));
    }

-- the applied slope lies within one
pub slope-within : (sheet : LayoutParams) (skew slope t : Float) → slope_ok slope ≡ true → t ≡ applied sheet skew slope → WithinOne t
unfolding slope_ok applied
slope-within sheet skew slope t e q = subst WithinOne (sym q) (go (le sheet.shear_min_deg _) (within slope e) (within positive_zero zero-slope))
  where
    to-T : (b : Bool) → b ≡ true → T b
    to-T b e = subst T (sym e) tt

    within : (x : Float) → (le (fin true 1 (pos 0)) x && le x (fin false 1 (pos 0))) ≡ true → WithinOne x
    within x e =
        let low = le (fin true 1 (pos 0)) x in
        let high = le x (fin false 1 (pos 0)) in
        (to-T low (and_left low high e), to-T high (and_right low high e))

    go : (b : Bool) → WithinOne slope → WithinOne positive_zero → WithinOne (cond b slope positive_zero)
    go true x z = x
    go false x z = z

-- ---- what an entry leaves

module _ (a : Leaf) (s ink : List ℕ) where
  abbrev place : ℕ
  place = place_refusal (store_words a.w (levelling_of a).frame.w (levelling_of a).frame.h a.capacity) ((levelling_of a).frame.w * (levelling_of a).frame.h) (length s) (length ink) (word_at s 0)

  -- refused by what is handed
  pub handed-no : (n : ℕ) → n ≡ leaf_refusal a 0 → (n ≡ 0 → ⊥) → left n s ink ≡ level_left a s ink
  unfolding level_left level_refusal settled
  handed-no n e z =
      let q = (leaf-passes a).stop (λ x. z (e ∙ x)) place ∙ sym e in
      rw (q, ne_eqb n 0 z)

  module _ (ok : leaf_refusal a 0 ≡ 0) (n : ℕ) (e : n ≡ place) where
    -- refused by what is lent
    pub lent-no : (n ≡ 0 → ⊥) → left n s ink ≡ level_left a s ink
    unfolding level_left level_refusal settled
    lent-no z = let q = (leaf-passes a).pass ok place ∙ sym e in rw (q, ne_eqb n 0 z)

    pub level-done : n ≡ 0 → left 0 (store_levelled a s) (over (levelling_of a).ink ink) ≡ level_left a s ink
    unfolding level_left level_refusal settled
    level-done z = let q = (leaf-passes a).pass ok place ∙ (sym e ∙ z) in rw q

    pub place-room : n ≡ 0 → (store_words a.w (levelling_of a).frame.w (levelling_of a).frame.h a.capacity ≤ length s) × ((levelling_of a).frame.w * (levelling_of a).frame.h ≤ length ink)
    unfolding place_refusal
    place-room z =
        let t₁ = refusal-passed _ 8 _ (sym e ∙ z) in
        let t₂ = refusal-passed _ 8 _ t₁.later in
        (ltb-false _ _ t₁.passed, ltb-false _ _ t₂.passed)

-- ---- levelling, as the code goes: the applied skew and slope, then the frame's sides

module _ (a : Leaf) (s ink : List ℕ) (handed : ℕ) (eh : handed ≡ leaf_refusal a 0) (gh : handed ≡ 0) (sk t : Float)
    (es : sk ≡ applied a.sheet a.skew a.skew) (et : t ≡ applied a.sheet a.skew a.slope) where
  ok : leaf_refusal a 0 ≡ 0
  ok = sym eh ∙ gh

  pub level-sides : PageSides a.w a.h
  level-sides = (leaf-handed a ok).sides

  pub level-within : WithinOne t
  level-within = slope-within a.sheet a.skew a.slope t (leaf-handed a ok).slope-in et

  pub level-whole : length a.mask ≡ a.w * a.h
  level-whole = (leaf-handed a ok).whole

  frame-by : frame a.w a.h t ≡ (levelling_of a).frame
  unfolding levelling
  frame-by = ap (frame a.w a.h) et

  skew-by : sk ≡ (levelling_of a).skew
  unfolding levelling
  skew-by = es

  slope-by : t ≡ (levelling_of a).slope
  unfolding levelling
  slope-by = et

  ink-by : levelled (frame a.w a.h t) 0 a.mask ≡ (levelling_of a).ink
  unfolding levelling
  ink-by = ap (λ (f : Frame). levelled f 0 a.mask) frame-by

  module _ (w h : ℕ) (ew : w ≡ (frame a.w a.h t).w) (ex : h ≡ (frame a.w a.h t).h) (lent : ℕ)
      (el : lent ≡ place_refusal (store_words a.w w h a.capacity) (w * h) (length s) (length ink) (word_at s 0)) where
    w-by : w ≡ (levelling_of a).frame.w
    w-by = ew ∙ ap (λ (f : Frame). f.w) frame-by

    h-by : h ≡ (levelling_of a).frame.h
    h-by = ex ∙ ap (λ (f : Frame). f.h) frame-by

    place-by : lent ≡ place a s ink
    place-by = el ∙ (λ i. place_refusal (store_words a.w (w-by i) (h-by i) a.capacity) (w-by i * h-by i) (length s) (length ink) (word_at s 0))

    pub place-no : (lent ≡ 0 → ⊥) → left lent s ink ≡ level_left a s ink
    place-no z = lent-no a s ink ok lent place-by z

    pub place-yes : lent ≡ 0 → (64 + (a.w + h) ≤ length s) × (w * h ≤ length ink)
    unfolding place_refusal
    place-yes z =
        let t₁ = refusal-passed _ 8 _ (sym el ∙ z) in
        let t₂ = refusal-passed _ 8 _ t₁.later in
        let r = ltb-false (length s) (store_words a.w w h a.capacity) t₁.passed in
        (omega arith, ltb-false _ _ t₂.passed)

    pub place-done : lent ≡ 0 → (s' ink' : List ℕ)
        → s' ≡ put_at 64 ((frame a.w a.h t).shear ++ (frame a.w a.h t).shear_x) (over (1 ∷ head_words a.w a.h w h a.capacity sk t) s)
        → ink' ≡ over (levelled (frame a.w a.h t) 0 a.mask) ink → left 0 s' ink' ≡ level_left a s ink
    unfolding store_levelled
    place-done z s' ink' e f =
        (λ i. left 0 (e i) (f i))
        ∙ ((λ i. left 0 (put_at 64 ((frame-by i).shear ++ (frame-by i).shear_x) (over (1 ∷ head_words a.w a.h (w-by i) (h-by i) a.capacity (skew-by i) (slope-by i)) s)) (over (ink-by i) ink))
        ∙ level-done a s ink ok lent place-by z)
