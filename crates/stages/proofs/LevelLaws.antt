-- What the limits give, and that the words which hold a frame's shears are its own. Assumes nothing.
use mathlib.Core.Path.{◌≡◌, refl, sym, ap, ◌∙◌}
use mathlib.Core.Bool.{Bool, true, false, not, cond, ◌&&◌}
use mathlib.Core.List.{List, ◌++◌}
use Prim.Native.Nat.{ℕ, ◌+◌, ◌*◌, ◌≤◌}
use lib.Dec.{T, eqb, ltb, leb, ltb→lt, leb→le, eqb→eq}
use lib.IntN.{pos}
use lib.Ieee.{Float, fin, le}
use lib.ListN.{length}
use Rattle.memory.specs.rules.Words.{over}
use Rattle.memory.specs.rules.Limits.{max_page_side}
use Rattle.rounding.proofs.Tests.{yes}
use Rattle.rounding.specs.rules.Drift.{WithinOne}
use Rattle.levelling.specs.rules.Frames.{PageSides, frame}
use Rattle.levelling.specs.rules.Planes.{levelled}
use Rattle.stages.specs.rules.Levels.{in_limits, frame_word, lent_fits, is_levelled, PlaneTold}

pub split : (a b : Bool) → T (a && b) → T a × T b
split true true t = (tt, tt)
split true false t = absurd t
split false b t = absurd t

record Six (a b c d e f : Bool) : Type 0 where
  one : T a
  two : T b
  three : T c
  four : T d
  five : T e
  six : T f

six-of : (a b c d e f : Bool) → T (a && b && c && d && e && f) → Six a b c d e f
six-of a b c d e f t =
    let v = split (a && b && c && d && e) f t in
    let w = split (a && b && c && d) e v.0 in
    let x = split (a && b && c) d w.0 in
    let y = split (a && b) c x.0 in
    let z = split a b y.0 in
    record { one = z.0; two = z.1; three = y.1; four = x.1; five = w.1; six = v.1 }

pub record Limits (w h : ℕ) (slope : Float) : Type 0 where
  pub sides : PageSides w h
  pub one : WithinOne slope

pub in-limits : (w h : ℕ) (slope : Float) → in_limits w h slope ≡ true → Limits w h slope
unfolding in_limits
in-limits w h slope e =
    let s = six-of (ltb 0 w) (leb w max_page_side) (ltb 0 h) (leb h max_page_side) (le (fin true 1 (pos 0)) slope) (le slope (fin false 1 (pos 0))) (yes e) in
    record {
      sides = record {
        wide = ltb→lt 0 w s.one;
        high = ltb→lt 0 h s.three;
        w_fits = leb→le w max_page_side s.two;
        h_fits = leb→le h max_page_side s.four;
      };
      one = (s.five, s.six);
    }

pub record Lent (page w h frame_w frame_h shears out : ℕ) : Type 0 where
  pub whole : page ≡ w * h
  pub words : w + frame_h ≤ shears
  pub bytes : frame_w * frame_h ≤ out

pub lent_fits_lem : (page w h frame_w frame_h shears out : ℕ) → lent_fits page w h frame_w frame_h shears out ≡ true → Lent page w h frame_w frame_h shears out
unfolding lent_fits
lent_fits_lem page w h frame_w frame_h shears out e =
    let a = eqb page (w * h) in
    let b = leb (w + frame_h) shears in
    let c = leb (frame_w * frame_h) out in
    let x = split (a && b) c (yes e) in
    let y = split a b x.0 in
    record { whole = eqb→eq page (w * h) y.0; words = leb→le (w + frame_h) shears y.1; bytes = leb→le (frame_w * frame_h) out x.1 }

-- ---- tests of the code: b is what the code was told, and it asks for `not b`
pub is_true : (b : Bool) → not b ≡ false → b ≡ true
is_true true e = refl
is_true false e = sym e

pub is_false : (b : Bool) → not b ≡ true → b ≡ false
is_false true e = sym e
is_false false e = refl

pub limits-held : (w h : ℕ) (slope : Float) (b : Bool) → b ≡ in_limits w h slope → not b ≡ false → Limits w h slope
limits-held w h slope b e n = in-limits w h slope (sym e ∙ is_true b n)

pub frame-outside : (w h : ℕ) (slope : Float) (b : Bool) → b ≡ in_limits w h slope → not b ≡ true → 0 ≡ frame_word w h slope
unfolding frame_word
frame-outside w h slope b e n =
    ap (λ (t : Bool). cond t ((frame w h slope).h * 4294967296 + (frame w h slope).w) 0) (sym (is_false b n) ∙ e)

pub frame-inside :
    (w h : ℕ) (slope : Float) (b : Bool) (fw fh : ℕ) → b ≡ in_limits w h slope → not b ≡ false → fw ≡ (frame w h slope).w → fh ≡ (frame w h slope).h
    → fh * 4294967296 + fw ≡ frame_word w h slope
unfolding frame_word
frame-inside w h slope b fw fh e n p q =
    ap (λ (k : ℕ). k * 4294967296 + fw) q
    ∙ ap (λ (k : ℕ). (frame w h slope).h * 4294967296 + k) p
    ∙ ap (λ (t : Bool). cond t ((frame w h slope).h * 4294967296 + (frame w h slope).w) 0) (sym (is_true b n) ∙ e)

-- ---- the answer of level_plane
told :
    (done : Bool) (w h : ℕ) (slope : Float) (fill : ℕ) (page shears out : List ℕ) (r : Bool) (shears' out' : List ℕ) → r ≡ done
    → shears' ≡ cond r (over ((frame w h slope).shear ++ (frame w h slope).shear_x) shears) shears
    → out' ≡ cond r (over (levelled (frame w h slope) fill page) out) out
    → PlaneTold done w h slope fill page shears out r shears' out'
told done w h slope fill page shears out r shears' out' e a b =
    record {
      answer = e;
      sheared = a ∙ ap (λ (t : Bool). cond t (over ((frame w h slope).shear ++ (frame w h slope).shear_x) shears) shears) e;
      plane = b ∙ ap (λ (t : Bool). cond t (over (levelled (frame w h slope) fill page) out) out) e;
    }

-- nothing is moved outside the limits ..
pub outside :
    (w h : ℕ) (slope : Float) (fill : ℕ) (page shears out : List ℕ) (b : Bool) → b ≡ in_limits w h slope → not b ≡ true
    → PlaneTold (is_levelled w h slope (length page) (length shears) (length out)) w h slope fill page shears out false shears out
unfolding is_levelled
outside w h slope fill page shears out b e n =
    told _ w h slope fill page shears out false shears out
    (ap (λ (t : Bool). t && lent_fits (length page) w h (frame w h slope).w (frame w h slope).h (length shears) (length out)) (sym (is_false b n) ∙ e))
    refl refl

fits-is :
    (w h : ℕ) (slope : Float) (page shears out fw fh : ℕ) (b c : Bool) → b ≡ in_limits w h slope → not b ≡ false → fw ≡ (frame w h slope).w → fh ≡ (frame w h slope).h
    → c ≡ lent_fits page w h fw fh shears out → c ≡ is_levelled w h slope page shears out
unfolding is_levelled
fits-is w h slope page shears out fw fh b c e n p q l =
    l
    ∙ ap (λ (k : ℕ). lent_fits page w h k fh shears out) p
    ∙ ap (λ (k : ℕ). lent_fits page w h (frame w h slope).w k shears out) q
    ∙ ap (λ (t : Bool). t && lent_fits page w h (frame w h slope).w (frame w h slope).h shears out) (sym (is_true b n) ∙ e)

-- .. or where something is too short
pub too_short :
    (w h : ℕ) (slope : Float) (fill : ℕ) (page shears out : List ℕ) (fw fh : ℕ) (b c : Bool) → b ≡ in_limits w h slope → not b ≡ false
    → fw ≡ (frame w h slope).w → fh ≡ (frame w h slope).h → c ≡ lent_fits (length page) w h fw fh (length shears) (length out) → not c ≡ true
    → PlaneTold (is_levelled w h slope (length page) (length shears) (length out)) w h slope fill page shears out false shears out
too_short w h slope fill page shears out fw fh b c e n p q l m =
    told _ w h slope fill page shears out false shears out
    (sym (is_false c m) ∙ fits-is w h slope (length page) (length shears) (length out) fw fh b c e n p q l)
    refl refl

pub moved :
    (w h : ℕ) (slope : Float) (fill : ℕ) (page shears out : List ℕ) (fw fh : ℕ) (b c : Bool) (shears' out' : List ℕ) → b ≡ in_limits w h slope → not b ≡ false
    → fw ≡ (frame w h slope).w → fh ≡ (frame w h slope).h → c ≡ lent_fits (length page) w h fw fh (length shears) (length out) → not c ≡ false
    → shears' ≡ over ((frame w h slope).shear ++ (frame w h slope).shear_x) shears
    → out' ≡ over (levelled (frame w h slope) fill page) out
    → PlaneTold (is_levelled w h slope (length page) (length shears) (length out)) w h slope fill page shears out true shears' out'
moved w h slope fill page shears out fw fh b c shears' out' e n p q l m s o =
    told _ w h slope fill page shears out true shears' out'
    (sym (is_true c m) ∙ fits-is w h slope (length page) (length shears) (length out) fw fh b c e n p q l)
    s o

pub lent-held :
    (page w h fw fh shears out : ℕ) (c : Bool) → c ≡ lent_fits page w h fw fh shears out → not c ≡ false → Lent page w h fw fh shears out
lent-held page w h fw fh shears out c l m = lent_fits_lem page w h fw fh shears out (sym l ∙ is_true c m)
