-- Two chains of refusals are the same where what they hang on is; what an accepted call has passed; which numbers are never told.
use mathlib.Core.Path.{◌≡◌, refl, sym, ap, ◌∙◌}
use mathlib.Core.Bool.{Bool, true, false, cond, not, ◌||◌, true≢false}
use mathlib.Core.List.{List}
use Prim.Native.Nat.{ℕ, suc, ◌*◌, ◌≤◌}
use native.Mathlib.Omega.{arith}
use borrow.Author.Tests.{ltb-false, eqb-true, not-false, le-ltb, eq-eqb}
use lib.Dec.{T, ltb, eqb}
use lib.Ieee.{fits, binary64}
use lib.ListN.{length}
use Rattle.memory.specs.rules.Limits.{scratch_words}
use Rattle.memory.specs.rules.Refusals.{refuse_if}
use Rattle.memory.proofs.RefusalLaws.{refusal-passed}
use Rattle.params.specs.rules.Valid.{valid}
use Rattle.params.specs.declared.LayoutParams.{LayoutParams}
use Rattle.memory.specs.rules.Masks.{is_mask}
use Rattle.judging.specs.rules.Header.{Held, dots_held, store_held, empty_state, segmented_state}
use Rattle.judging.specs.rules.Leaves.{Leaf, levelling_of}
use Rattle.judging.specs.rules.Spoiled.{side_ok, capacity_ok, skew_ok, slope_ok, state_spoiled, limits_ok}
use Rattle.judging.specs.rules.Refusals.{leaf_refusal, place_refusal, level_refusal, head_refusal, held_refusal, segment_refusal, result_refusal, level_reading_refusal, clear_refusal}
use Rattle.store.specs.rules.Readings.{Output}
use Rattle.store.specs.rules.Outcomes.{Told, told_by, settled}
use Rattle.store.proofs.HeaderLaws.{Accepted}
use Rattle.store.proofs.StoreLaws.{leaf_store}

-- ---- one test

pub refuse-same : (b : Bool) (k x y : ℕ) → (b ≡ false → x ≡ y) → refuse_if b k x ≡ refuse_if b k y
unfolding refuse_if
refuse-same true k x y h = refl
refuse-same false k x y h = h refl

pub refuse-both : (b c : Bool) (k x y : ℕ) → b ≡ c → (c ≡ false → x ≡ y) → refuse_if b k x ≡ refuse_if c k y
refuse-both b c k x y e h = ap (λ t. refuse_if t k x) e ∙ refuse-same c k x y h

pub refuse-true : (b c : Bool) (k x y : ℕ) → b ≡ true → c ≡ true → refuse_if b k x ≡ refuse_if c k y
unfolding refuse_if
refuse-true b c k x y e f = rw (e, f)

pub refuse-none : (b : Bool) (k x : ℕ) → b ≡ false → x ≡ 0 → refuse_if b k x ≡ 0
unfolding refuse_if
refuse-none b k x e f = rw e f

pub refuse-not : (j : ℕ) (b : Bool) (k x : ℕ) → (k ≡ j → ⊥) → (x ≡ j → ⊥) → refuse_if b k x ≡ j → ⊥
unfolding refuse_if
refuse-not j true k x p q e = p e
refuse-not j false k x p q e = q e

pub refuse-past : (j : ℕ) (b : Bool) (k x : ℕ) → b ≡ false → (x ≡ j → ⊥) → refuse_if b k x ≡ j → ⊥
unfolding refuse_if
refuse-past j b k x p q e = q (rw p at e)

pub refuse-then : (j : ℕ) (b : Bool) (k x : ℕ) → (k ≡ j → ⊥) → (b ≡ false → x ≡ j → ⊥) → refuse_if b k x ≡ j → ⊥
unfolding refuse_if
refuse-then j true k x p q e = p e
refuse-then j false k x p q e = q refl e

pub or_left : (a b : Bool) → (not a || not b) ≡ false → a ≡ true
or_left true b e = refl
or_left false b e = absurd (true≢false e)

pub or_right : (a b : Bool) → (not a || not b) ≡ false → b ≡ true
or_right true true e = refl
or_right true false e = absurd (true≢false e)
or_right false b e = absurd (true≢false e)

-- ---- levelling

pub level-same : (a : Leaf) (store ink st st' : ℕ) → (64 ≤ store → st ≡ st') → level_refusal a store ink st ≡ level_refusal a store ink st'
unfolding level_refusal leaf_refusal place_refusal
level-same a store ink st st' h =
    refuse-same _ 1 _ _ (λ _. refuse-same _ 2 _ _ (λ _. refuse-same _ 3 _ _ (λ _. refuse-same _ 4 _ _ (λ _. refuse-same _ 5 _ _ (λ _. refuse-same _ 6 _ _ (λ _. refuse-same _ 7 _ _ (λ _.
    refuse-same _ 9 _ _ (λ q. ap (λ z. refuse_if (ltb ink ((levelling_of a).frame.w * (levelling_of a).frame.h)) 9 (refuse_if (ltb segmented_state z) 16 (refuse_if (not (eqb z empty_state)) 17 0)))
    (h (let r = ltb-false store (leaf_store a) q in omega arith))))))))))

-- what an accepted levelling has passed
pub record LevelPassed (a : Leaf) (store ink st : ℕ) : Type 0 where
  pub accepted : Accepted a
  pub room : leaf_store a ≤ store
  pub ink-room : (levelling_of a).frame.w * (levelling_of a).frame.h ≤ ink
  pub empty : st ≡ 0

pub level-passed : (a : Leaf) (store ink st : ℕ) → T (fits binary64 a.skew) × T (fits binary64 a.slope) → level_refusal a store ink st ≡ 0 → LevelPassed a store ink st
unfolding level_refusal leaf_refusal place_refusal
level-passed a store ink st F e =
    let t₁ = refusal-passed _ 0 _ e in
    let t₂ = refusal-passed _ 1 _ t₁.later in
    let t₃ = refusal-passed _ 2 _ t₂.later in
    let t₄ = refusal-passed _ 3 _ t₃.later in
    let t₅ = refusal-passed _ 4 _ t₄.later in
    let t₆ = refusal-passed _ 5 _ t₅.later in
    let t₇ = refusal-passed _ 6 _ t₆.later in
    let t₈ = refusal-passed _ 8 _ t₇.later in
    let t₉ = refusal-passed _ 8 _ t₈.later in
    let t₁₀ = refusal-passed _ 15 _ t₉.later in
    let t₁₁ = refusal-passed _ 16 _ t₁₀.later in
    record {
      accepted =
          record {
            wide = or_left (side_ok a.w) (side_ok a.h) t₁.passed;
            high = or_right (side_ok a.w) (side_ok a.h) t₁.passed;
            whole = eqb-true _ _ (not-false _ t₂.passed);
            bits = not-false _ t₃.passed;
            skew-in = not-false _ t₄.passed;
            slope-in = not-false _ t₅.passed;
            sheet-valid = not-false _ t₆.passed;
            few = not-false _ t₇.passed;
            skew-fits = F.0;
            slope-fits = F.1;
          };
      room = ltb-false _ _ t₈.passed;
      ink-room = ltb-false _ _ t₉.passed;
      empty = eqb-true _ _ (not-false _ t₁₁.passed);
    }

-- such a leaf is accepted again
pub level-again : (a : Leaf) (store ink : ℕ) → Accepted a → leaf_store a ≤ store → (levelling_of a).frame.w * (levelling_of a).frame.h ≤ ink → level_refusal a store ink 0 ≡ 0
unfolding level_refusal leaf_refusal place_refusal
level-again a store ink A r i =
    let off : (b : Bool) → b ≡ true → not b ≡ false = λ b e. ap not e in
    let both : (b c : Bool) → b ≡ true → c ≡ true → (not b || not c) ≡ false = λ b c e f. rw (e, f) in
    refuse-none _ 1 _ (both (side_ok a.w) (side_ok a.h) A.wide A.high)
    (refuse-none _ 2 _ (off (eqb (length a.mask) (a.w * a.h)) (eq-eqb _ _ A.whole))
    (refuse-none _ 3 _ (off (is_mask a.mask) A.bits)
    (refuse-none _ 4 _ (off (skew_ok a.skew) A.skew-in)
    (refuse-none _ 5 _ (off (slope_ok a.slope) A.slope-in)
    (refuse-none _ 6 _ (off (valid a.sheet) A.sheet-valid)
    (refuse-none _ 7 _ (off (capacity_ok a.capacity) A.few)
    (refuse-none _ 9 _ (le-ltb store (leaf_store a) r)
    (refuse-none _ 9 _ (le-ltb ink ((levelling_of a).frame.w * (levelling_of a).frame.h) i)
    (refuse-none _ 16 _ refl (refuse-none _ 17 _ refl refl))))))))))

pub level-never : (a : Leaf) (store ink st : ℕ) → st ≤ 2 → level_refusal a store ink st ≡ 16 → ⊥
unfolding level_refusal leaf_refusal place_refusal
level-never a store ink st h =
    refuse-not 16 _ 1 _ (omega arith) (refuse-not 16 _ 2 _ (omega arith) (refuse-not 16 _ 3 _ (omega arith) (refuse-not 16 _ 4 _ (omega arith)
    (refuse-not 16 _ 5 _ (omega arith) (refuse-not 16 _ 6 _ (omega arith) (refuse-not 16 _ 7 _ (omega arith) (refuse-not 16 _ 9 _ (omega arith)
    (refuse-not 16 _ 9 _ (omega arith) (refuse-past 16 _ 16 _ (le-ltb 2 st h) (refuse-not 16 _ 17 _ (omega arith) (omega arith)))))))))))

-- ---- the other calls

-- the header of a state that is too early: the rest does not matter
pub held-early : (store : ℕ) (g g' : Held) (e e' : Bool) (k r r' : ℕ) → (64 ≤ store → g.state ≡ g'.state) → (64 ≤ store → e ≡ true) → e' ≡ true
    → held_refusal store g e k r ≡ held_refusal store g' e' k r'
unfolding held_refusal head_refusal
held-early store g g' e e' k r r' s p p' =
    refuse-same _ 9 _ _ (λ q.
    let l = ltb-false store 64 q in
    refuse-both _ _ 16 _ _ (ap (λ z. ltb 2 z) (s l)) (λ _. refuse-true e e' k _ _ (p l) p'))

-- the same header: what follows matters where it passes
pub held_same : (store : ℕ) (g g' : Held) (e : Held → Bool) (k : ℕ) (r : Held → ℕ) (r' : ℕ) → (64 ≤ store → g ≡ g') → (64 ≤ store → store_held g' ≤ store → r g' ≡ r')
    → held_refusal store g (e g) k (r g) ≡ held_refusal store g' (e g') k r'
unfolding held_refusal head_refusal
held_same store g g' e k r r' s h =
    refuse-same _ 9 _ _ (λ q.
    let l = ltb-false store 64 q in
    ap (λ (z : Held). refuse_if (state_spoiled z) 16 (refuse_if (e z) k (refuse_if (not (limits_ok z)) 16 (refuse_if (ltb store (store_held z)) 9 (r z))))) (s l)
    ∙ refuse-same _ 16 _ _ (λ _. refuse-same _ k _ _ (λ _. refuse-same _ 16 _ _ (λ _. refuse-same _ 9 _ _ (λ o. h l (ltb-false store (store_held g') o))))))

pub record HeldPassed (store : ℕ) (g : Held) (e : Bool) (r : ℕ) : Type 0 where
  pub words : 64 ≤ store
  pub late : e ≡ false
  pub room : store_held g ≤ store
  pub later : r ≡ 0

pub held-passed : (store : ℕ) (g : Held) (e : Bool) (k r : ℕ) → held_refusal store g e (suc k) r ≡ 0 → HeldPassed store g e r
unfolding held_refusal head_refusal
held-passed store g e k r h =
    let t₁ = refusal-passed _ 8 _ h in
    let t₂ = refusal-passed _ 15 _ t₁.later in
    let t₃ = refusal-passed _ k _ t₂.later in
    let t₄ = refusal-passed _ 15 _ t₃.later in
    let t₅ = refusal-passed _ 8 _ t₄.later in
    record { words = ltb-false _ _ t₁.passed; late = t₃.passed; room = ltb-false _ _ t₅.passed; later = t₅.later }

pub held_none : (store : ℕ) (g : Held) (e : Bool) (k r : ℕ) → 64 ≤ store → g.state ≤ 2 → e ≡ false → limits_ok g ≡ true → store_held g ≤ store → r ≡ 0 → held_refusal store g e k r ≡ 0
unfolding held_refusal head_refusal
held_none store g e k r w st l o m z =
    refuse-none _ 9 _ (le-ltb store 64 w) (refuse-none _ 16 _ (le-ltb 2 g.state st) (refuse-none _ k _ l (refuse-none _ 16 _ (ap not o) (refuse-none _ 9 _ (le-ltb store (store_held g) m) z))))

pub held-never : (store : ℕ) (g : Held) (e : Bool) (k r : ℕ) → g.state ≤ 2 → (e ≡ false → limits_ok g ≡ true) → (k ≡ 16 → ⊥) → (r ≡ 16 → ⊥) → held_refusal store g e k r ≡ 16 → ⊥
unfolding held_refusal head_refusal
held-never store g e k r st o n h =
    refuse-not 16 _ 9 _ (omega arith) (refuse-past 16 _ 16 _ (le-ltb 2 g.state st) (refuse-then 16 _ k _ n (λ l.
    refuse-past 16 _ 16 _ (ap not (o l)) (refuse-not 16 _ 9 _ (omega arith) h))))

-- ---- segmenting

module _ (sheet : LayoutParams) (store ink kinds scratch : ℕ) where
  pub segment-early : (g g' : Held) (b b' : Bool) (n n' : ℕ) → (64 ≤ store → g.state ≡ 0) → g'.state ≡ 0
      → segment_refusal sheet store ink kinds scratch g b n ≡ segment_refusal sheet store ink kinds scratch g' b' n'
  unfolding segment_refusal
  segment-early g g' b b' n n' s s' =
      refuse-same _ 6 _ _ (λ _. held-early store g g' _ _ 18 _ _ (λ l. s l ∙ sym s') (λ l. eq-eqb _ _ (s l)) (eq-eqb _ _ s'))

  pub segment-same : (g g' : Held) (b b' : Bool) (n n' : ℕ) → (64 ≤ store → g ≡ g') → (64 ≤ store → store_held g' ≤ store → dots_held g' ≤ ink → (b ≡ b') × (n ≡ n'))
      → segment_refusal sheet store ink kinds scratch g b n ≡ segment_refusal sheet store ink kinds scratch g' b' n'
  unfolding segment_refusal
  segment-same g g' b b' n n' s h =
      refuse-same _ 6 _ _ (λ _.
      held_same store g g' (λ (z : Held). eqb z.state empty_state) 18
      (λ (z : Held). refuse_if (ltb ink (dots_held z)) 9 (refuse_if (ltb kinds (dots_held z)) 9 (refuse_if (ltb scratch (scratch_words (dots_held z) z.capacity)) 9 (refuse_if b 16 n))))
      _ s (λ l m. refuse-same _ 9 _ _ (λ i. refuse-same _ 9 _ _ (λ _. refuse-same _ 9 _ _ (λ _.
      let f = h l m (ltb-false ink (dots_held g') i) in refuse-both b b' 16 n n' f.0 (λ _. f.1))))))

  pub record SegmentPassed (g : Held) (b : Bool) (n : ℕ) : Type 0 where
    pub sheet-valid : valid sheet ≡ true
    pub words : 64 ≤ store
    pub late : eqb g.state empty_state ≡ false
    pub room : store_held g ≤ store
    pub ink-room : dots_held g ≤ ink
    pub kinds_room : dots_held g ≤ kinds
    pub pieces : n ≡ 0

  pub segment-passed : (g : Held) (b : Bool) (n : ℕ) → segment_refusal sheet store ink kinds scratch g b n ≡ 0 → SegmentPassed g b n
  unfolding segment_refusal
  segment-passed g b n e =
      let t₁ = refusal-passed _ 5 _ e in
      let t₂ = held-passed store g _ 17 _ t₁.later in
      let t₃ = refusal-passed _ 8 _ t₂.later in
      let t₄ = refusal-passed _ 8 _ t₃.later in
      let t₅ = refusal-passed _ 8 _ t₄.later in
      let t₆ = refusal-passed _ 15 _ t₅.later in
      record {
        sheet-valid = not-false _ t₁.passed;
        words = t₂.words;
        late = t₂.late;
        room = t₂.room;
        ink-room = ltb-false _ _ t₃.passed;
        kinds_room = ltb-false _ _ t₄.passed;
        pieces = t₆.later;
      }

  pub segment-none : (g : Held) → valid sheet ≡ true → 64 ≤ store → g.state ≤ 2 → eqb g.state empty_state ≡ false → limits_ok g ≡ true → store_held g ≤ store
      → dots_held g ≤ ink → dots_held g ≤ kinds → scratch_words (dots_held g) g.capacity ≤ scratch → (n : ℕ) → n ≡ 0 → segment_refusal sheet store ink kinds scratch g false n ≡ 0
  unfolding segment_refusal
  segment-none g v w st l o m i k x n z =
      refuse-none _ 6 _ (ap not v) (held_none store g _ 18 _ w st l o m
      (refuse-none _ 9 _ (le-ltb ink (dots_held g) i) (refuse-none _ 9 _ (le-ltb kinds (dots_held g) k)
      (refuse-none _ 9 _ (le-ltb scratch (scratch_words (dots_held g) g.capacity) x) (refuse-none _ 16 _ refl z)))))

  pub segment-never : (g : Held) (n : ℕ) → g.state ≤ 2 → (eqb g.state empty_state ≡ false → limits_ok g ≡ true) → (n ≡ 16 → ⊥) → segment_refusal sheet store ink kinds scratch g false n ≡ 16 → ⊥
  unfolding segment_refusal
  segment-never g n st o h =
      refuse-not 16 _ 6 _ (omega arith) (held-never store g _ 18 _ st o (omega arith)
      (refuse-not 16 _ 9 _ (omega arith) (refuse-not 16 _ 9 _ (omega arith) (refuse-not 16 _ 9 _ (omega arith) (refuse-past 16 _ 16 _ refl h)))))

-- ---- readings of results

module _ (store ink kinds : ℕ) (lacking : Bool) where
  pub result-early : (g g' : Held) (b b' d d' t t' : Bool) → (64 ≤ store → g.state ≡ g'.state) → not (eqb g'.state segmented_state) ≡ true
      → result_refusal store ink kinds g lacking b d t ≡ result_refusal store ink kinds g' lacking b' d' t'
  unfolding result_refusal
  result-early g g' b b' d d' t t' s e =
      held-early store g g' _ _ 19 _ _ s (λ l. ap (λ z. not (eqb z segmented_state)) (s l) ∙ e) e

  pub result-same : (g g' : Held) (b b' d d' t t' : Bool) → (64 ≤ store → g ≡ g')
      → (64 ≤ store → store_held g' ≤ store → dots_held g' ≤ ink → dots_held g' ≤ kinds → (b ≡ b') × (d ≡ d') × (t ≡ t'))
      → result_refusal store ink kinds g lacking b d t ≡ result_refusal store ink kinds g' lacking b' d' t'
  unfolding result_refusal
  result-same g g' b b' d d' t t' s h =
      held_same store g g' (λ (z : Held). not (eqb z.state segmented_state)) 19
      (λ (z : Held). refuse_if (ltb ink (dots_held z)) 9 (refuse_if (ltb kinds (dots_held z)) 9 (refuse_if lacking 9 (refuse_if b 16 (refuse_if d 8 (refuse_if t 9 0))))))
      _ s (λ l m. refuse-same _ 9 _ _ (λ i. refuse-same _ 9 _ _ (λ k. refuse-same _ 9 _ _ (λ _.
      let f = h l m (ltb-false ink (dots_held g') i) (ltb-false kinds (dots_held g') k) in
      refuse-both b b' 16 _ _ f.0 (λ _. refuse-both d d' 8 _ _ f.1 (λ _. refuse-both t t' 9 0 0 f.2 (λ _. refl)))))))

  pub record ResultPassed (g : Held) : Type 0 where
    pub words : 64 ≤ store
    pub late : not (eqb g.state segmented_state) ≡ false
    pub room : store_held g ≤ store
    pub ink-room : dots_held g ≤ ink
    pub kinds_room : dots_held g ≤ kinds

  pub result-passed : (g : Held) (b d t : Bool) → result_refusal store ink kinds g lacking b d t ≡ 0 → ResultPassed g
  unfolding result_refusal
  result-passed g b d t e =
      let t₂ = held-passed store g _ 18 _ e in
      let t₃ = refusal-passed _ 8 _ t₂.later in
      let t₄ = refusal-passed _ 8 _ t₃.later in
      record { words = t₂.words; late = t₂.late; room = t₂.room; ink-room = ltb-false _ _ t₃.passed; kinds_room = ltb-false _ _ t₄.passed }

  pub result-never : (g : Held) (d t : Bool) → g.state ≤ 2 → (not (eqb g.state segmented_state) ≡ false → limits_ok g ≡ true) → result_refusal store ink kinds g lacking false d t ≡ 16 → ⊥
  unfolding result_refusal
  result-never g d t st o =
      held-never store g _ 19 _ st o (omega arith)
      (refuse-not 16 _ 9 _ (omega arith) (refuse-not 16 _ 9 _ (omega arith) (refuse-not 16 _ 9 _ (omega arith) (refuse-past 16 _ 16 _ refl
      (refuse-not 16 _ 8 _ (omega arith) (refuse-not 16 _ 9 _ (omega arith) (omega arith)))))))

-- ---- mapping and `level_gray`

module _ (store : ℕ) where
  pub reading-early : (g g' : Held) (c c' b b' d d' : Bool) → (64 ≤ store → g.state ≡ 0) → g'.state ≡ 0
      → level_reading_refusal store g c b d ≡ level_reading_refusal store g' c' b' d'
  unfolding level_reading_refusal
  reading-early g g' c c' b b' d d' s s' = held-early store g g' _ _ 18 _ _ (λ l. s l ∙ sym s') (λ l. eq-eqb _ _ (s l)) (eq-eqb _ _ s')

  pub reading-same : (g g' : Held) (c d : Held → Bool) (b b' : Bool) → (64 ≤ store → g ≡ g') → (64 ≤ store → store_held g' ≤ store → b ≡ b')
      → level_reading_refusal store g (c g) b (d g) ≡ level_reading_refusal store g' (c g') b' (d g')
  unfolding level_reading_refusal
  reading-same g g' c d b b' s h =
      held_same store g g' (λ (z : Held). eqb z.state empty_state) 18 (λ (z : Held). refuse_if (c z) 9 (refuse_if b 16 (refuse_if (d z) 8 0)))
      _ s (λ l m. refuse-same _ 9 _ _ (λ _. refuse-both b b' 16 _ _ (h l m) (λ _. refl)))

  pub reading-words : (g : Held) (c b d : Bool) → level_reading_refusal store g c b d ≡ 0 → (64 ≤ store) × (eqb g.state empty_state ≡ false)
  unfolding level_reading_refusal
  reading-words g c b d e = let t = held-passed store g _ 17 _ e in (t.words, t.late)

  pub reading-never : (g : Held) (c d : Bool) → g.state ≤ 2 → (eqb g.state empty_state ≡ false → limits_ok g ≡ true) → level_reading_refusal store g c false d ≡ 16 → ⊥
  unfolding level_reading_refusal
  reading-never g c d st o =
      held-never store g _ 18 _ st o (omega arith) (refuse-not 16 _ 9 _ (omega arith) (refuse-past 16 _ 16 _ refl (refuse-not 16 _ 8 _ (omega arith) (omega arith))))

pub clear-never : (store : ℕ) → clear_refusal store ≡ 16 → ⊥
unfolding clear_refusal
clear-never store = refuse-not 16 _ 9 _ (omega arith) (omega arith)

-- ---- what is told by a number

pub told_same : (n v v' : ℕ) (o o' x : Output) → (n ≡ 0 → (v ≡ v') × (o ≡ o')) → told_by n v o x ≡ told_by n v' o' x
unfolding told_by
told_same n v v' o o' x h = go (eqb n 0) refl
  where
    go : (b : Bool) → eqb n 0 ≡ b → ◌≡◌ {A = Told} (record { number = n; value = cond (eqb n 0) v 0; output = cond (eqb n 0) o x }) (record { number = n; value = cond (eqb n 0) v' 0; output = cond (eqb n 0) o' x })
    go true q = let f = h (eqb-true n 0 q) in λ i. record { number = n; value = cond (eqb n 0) (f.0 i) 0; output = cond (eqb n 0) (f.1 i) x }
    go false q = rw q

pub told-alone : (n : ℕ) (x : Output) → told_by n 0 x x ≡ record { number = n; value = 0; output = x }
unfolding told_by
told-alone n x = go (eqb n 0)
  where
    go : (b : Bool) → ◌≡◌ {A = Told} (record { number = n; value = cond b 0 0; output = cond b x x }) (record { number = n; value = 0; output = x })
    go true = refl
    go false = refl

pub settled-yes : (n : ℕ) (s p s' p' : List ℕ) → eqb n 0 ≡ true → ((settled n s p s' p').store ≡ s') × ((settled n s p s' p').plane ≡ p')
unfolding settled
settled-yes n s p s' p' e = (rw e, rw e)

pub settled-no : (n : ℕ) (s p s' p' : List ℕ) → eqb n 0 ≡ false → ((settled n s p s' p').store ≡ s) × ((settled n s p s' p').plane ≡ p)
unfolding settled
settled-no n s p s' p' e = (rw e, rw e)

pub settled-number : (n : ℕ) (s p s' p' : List ℕ) → (settled n s p s' p').number ≡ n
unfolding settled
settled-number n s p s' p' = refl
