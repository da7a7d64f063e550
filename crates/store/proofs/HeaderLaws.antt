-- What a leaf has that levelling accepts, and what a store says of it.
use mathlib.Core.Path.{◌≡◌, refl, sym, ap, ◌∙◌, subst}
use mathlib.Core.Bool.{Bool, true, false, cond}
use mathlib.Core.List.{List, ◌++◌}
use Prim.Native.Nat.{ℕ, ◌+◌, ◌*◌, ◌^◌, ◌≤◌, ◌<◌}
use native.Mathlib.Nat.{div-add-mod'}
use native.Mathlib.Omega.{arith}
use borrow.Author.Tests.{eq-eqb, leb-true, ltb-true}
use lib.Dec.{T, ltb, leb}
use lib.IntN.{pos}
use lib.Ieee.{Float, binary64, to_bits, of_bits, fits, le, lt, eq, of_fields, fin}
use lib.Ieee.Bits.{of_bits-to_bits, of_bits-fits}
use lib.ListN.{length, get_or, take, length-append}
use lib.Seq.{get_or-take}
use Rattle.memory.specs.rules.Words.{word_at}
use Rattle.memory.proofs.WordLaws.{same_self}
use Rattle.memory.proofs.BoolLaws.{and_left, and_right}
use Rattle.rounding.specs.rules.Drift.{WithinOne}
use Rattle.rounding.specs.rules.Rounding.{positive_zero}
use Rattle.params.specs.declared.LayoutParams.{LayoutParams}
use Rattle.params.specs.rules.Valid.{valid}
use Rattle.levelling.specs.rules.Frames.{Frame, PageSides, frame}
use Rattle.levelling.specs.rules.Planes.{levelling, level_ink}
use Rattle.levelling.specs.rules.Shears.{applied}
use Rattle.levelling.proofs.FrameLaws.{length-shears}
use Rattle.memory.specs.rules.Masks.{is_mask}
use Rattle.judging.specs.rules.Header.{Held, held, part, header_words, frame_held, low_word, high_word}
use Rattle.judging.specs.rules.Leaves.{Leaf, levelling_of, leaf_held}
use Rattle.store.specs.rules.Written.{level_words}
use Rattle.judging.specs.rules.Spoiled.{side_ok, capacity_ok, skew_ok, slope_ok, limits_ok, frame_differs, frame_spoiled}
use Rattle.judging.proofs.PartLaws.{part-word}

-- what levelling accepts; its skew and slope are f64s
pub record Accepted (a : Leaf) : Type 0 where
  pub wide : side_ok a.w ≡ true
  pub high : side_ok a.h ≡ true
  pub whole : length a.mask ≡ a.w * a.h
  pub bits : is_mask a.mask ≡ true
  pub skew-in : skew_ok a.skew ≡ true
  pub slope-in : slope_ok a.slope ≡ true
  pub sheet-valid : valid a.sheet ≡ true
  pub few : capacity_ok a.capacity ≡ true
  pub skew-fits : T (fits binary64 a.skew)
  pub slope-fits : T (fits binary64 a.slope)

pub zero-skew : skew_ok positive_zero ≡ true
unfolding skew_ok le lt eq of_bits of_fields
zero-skew = refl

pub zero-slope : slope_ok positive_zero ≡ true
unfolding slope_ok le lt eq of_bits of_fields
zero-slope = refl

pub zero-fits : T (fits binary64 positive_zero)
zero-fits = of_bits-fits binary64 0

-- what holds of a value and of 0 holds of the applied value
applied-holds : (Q : Float → Type 0) (sheet : LayoutParams) (skew v : Float) → Q v → Q positive_zero → Q (applied sheet skew v)
unfolding applied
applied-holds Q sheet skew v x z = go (le sheet.shear_min_deg _)
  where
    go : (b : Bool) → Q (cond b v positive_zero)
    go true = x
    go false = z

module _ (a : Leaf) where
  pub frame-of : (st : ℕ) → frame_held (leaf_held st a) ≡ (levelling_of a).frame
  unfolding levelling
  frame-of st = refl

  pub page_wide : (levelling_of a).frame.page_w ≡ a.w
  unfolding levelling frame
  page_wide = refl

  pub page_high : (levelling_of a).frame.page_h ≡ a.h
  unfolding levelling frame
  page_high = refl

  pub ink_is : (levelling_of a).ink ≡ level_ink (levelling_of a).frame a.mask
  unfolding levelling
  ink_is = refl

  module _ (A : Accepted a) where
    pub skew-applied : skew_ok (levelling_of a).skew ≡ true
    unfolding levelling
    skew-applied = applied-holds (λ x. skew_ok x ≡ true) _ _ _ A.skew-in zero-skew

    pub slope-applied : slope_ok (levelling_of a).slope ≡ true
    unfolding levelling
    slope-applied = applied-holds (λ x. slope_ok x ≡ true) _ _ _ A.slope-in zero-slope

    skew-double : T (fits binary64 (levelling_of a).skew)
    unfolding levelling
    skew-double = applied-holds (λ x. T (fits binary64 x)) _ _ _ A.skew-fits zero-fits

    slope-double : T (fits binary64 (levelling_of a).slope)
    unfolding levelling
    slope-double = applied-holds (λ x. T (fits binary64 x)) _ _ _ A.slope-fits zero-fits

    pub limits-pass : (st : ℕ) → limits_ok (leaf_held st a) ≡ true
    unfolding limits_ok
    limits-pass st = rw (A.wide, A.high, A.few, skew-applied, slope-applied)

    pub sides : PageSides a.w a.h
    sides =
        record {
          wide = ltb-true 0 a.w (and_left _ _ A.wide);
          high = ltb-true 0 a.h (and_left _ _ A.high);
          w_fits = leb-true a.w 8192 (and_right (ltb 0 a.w) (leb a.w 8192) A.wide);
          h_fits = leb-true a.h 8192 (and_right (ltb 0 a.h) (leb a.h 8192) A.high);
        }

    to-T : (b : Bool) → b ≡ true → T b
    to-T b e = subst T (sym e) tt

    pub one : WithinOne (levelling_of a).slope
    unfolding slope_ok
    one =
        let x = (levelling_of a).slope in
        let low = le (fin true 1 (pos 0)) x in
        let high = le x (fin false 1 (pos 0)) in
        (to-T low (and_left low high slope-applied), to-T high (and_right low high slope-applied))

    -- the lengths of the shears
    pub shears-long : length ((levelling_of a).frame.shear ++ (levelling_of a).frame.shear_x) ≡ a.w + (levelling_of a).frame.h
    unfolding levelling
    shears-long =
        let f = frame a.w a.h (levelling_of a).slope in
        let e = length-shears a.w a.h (levelling_of a).slope sides one in
        length-append f.shear f.shear_x ∙ (λ i. e.0 i + e.1 i)

    -- the header of a store
    float_of : (x : Float) → T (fits binary64 x) → of_bits binary64 (high_word x * 2 ^ 32 + low_word x) ≡ x
    float_of x F = ap (of_bits binary64) (div-add-mod' (to_bits binary64 x) (2 ^ 32)) ∙ of_bits-to_bits binary64 x F

    pub held-is : (st : ℕ) (s : List ℕ) → word_at s 0 ≡ st → part 1 9 s ≡ level_words a → held s ≡ leaf_held st a
    unfolding held
    held-is st s e q =
        let word : (j : ℕ) → j < 9 → get_or s (1 + j) 0 ≡ get_or (level_words a) j 0 = λ j l. sym (part-word 1 9 s j l) ∙ ap (λ (z : List ℕ). get_or z j 0) q in
        λ i. record {
          state = e i;
          page_w = word 0 (omega arith) i;
          page_h = word 1 (omega arith) i;
          w = word 2 (omega arith) i;
          h = word 3 (omega arith) i;
          capacity = word 4 (omega arith) i;
          skew = ((λ j. of_bits binary64 (word 6 (omega arith) j * 2 ^ 32 + word 5 (omega arith) j)) ∙ float_of (levelling_of a).skew skew-double) i;
          slope = ((λ j. of_bits binary64 (word 8 (omega arith) j * 2 ^ 32 + word 7 (omega arith) j)) ∙ float_of (levelling_of a).slope slope-double) i;
        }

-- the frame and the shears of a store
frame_same : (g : Held) (f : Frame) (s : List ℕ) → g.w ≡ f.w → g.h ≡ f.h → part header_words (g.page_w + f.h) s ≡ f.shear ++ f.shear_x → frame_differs g f s ≡ false
unfolding frame_differs
frame_same g f s ew eh q = rw (eq-eqb g.w f.w ew, eq-eqb g.h f.h eh, q, same_self (f.shear ++ f.shear_x))

pub frame-sound : (a : Leaf) (st : ℕ) (s : List ℕ) → held s ≡ leaf_held st a
    → part header_words (a.w + (levelling_of a).frame.h) s ≡ (levelling_of a).frame.shear ++ (levelling_of a).frame.shear_x → frame_spoiled s ≡ false
unfolding frame_spoiled
frame-sound a st s e q =
    ap (λ (g : Held). frame_differs g (frame_held g) s) e
    ∙ (ap (λ (f : Frame). frame_differs (leaf_held st a) f s) (frame-of a st) ∙ frame_same (leaf_held st a) (levelling_of a).frame s refl refl q)

-- the first words of a store say the same
pub held-front : (k : ℕ) (s : List ℕ) → 10 ≤ k → held (take k s) ≡ held s
unfolding held
held-front k s h =
    let word : (j : ℕ) → j < 10 → get_or (take k s) j 0 ≡ get_or s j 0 = λ j l. get_or-take k s j 0 (omega arith) in
    λ i. record {
      state = word 0 (omega arith) i;
      page_w = word 1 (omega arith) i;
      page_h = word 2 (omega arith) i;
      w = word 3 (omega arith) i;
      h = word 4 (omega arith) i;
      capacity = word 5 (omega arith) i;
      skew = of_bits binary64 (word 7 (omega arith) i * 2 ^ 32 + word 6 (omega arith) i);
      slope = of_bits binary64 (word 9 (omega arith) i * 2 ^ 32 + word 8 (omega arith) i);
    }
