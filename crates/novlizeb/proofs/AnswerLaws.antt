-- An entry's promise, told as one number.
use mathlib.Core.Path.{◌≡◌, sym, ap, ◌∙◌}
use mathlib.Core.Bool.{Bool, true, false, cond, not, ◌&&◌}
use mathlib.Core.List.{List}
use Prim.Native.Nat.{ℕ, ◌+◌, ◌*◌}
use native.Mathlib.Omega.{arith}
use borrow.Author.Tests.{not-false, ltb-true, leb-true}
use lib.Dec.{ltb, leb}
use lib.IntN.{pos}
use lib.Ieee.{Float, fin, le}
use Rattle.memory.specs.rules.Limits.{max_page_side}
use Rattle.memory.proofs.BoolLaws.{and_left, and_right}
use Rattle.rounding.specs.rules.Drift.{WithinOne}
use Rattle.rounding.proofs.Tests.{yes}
use Rattle.levelling.specs.rules.Frames.{PageSides, frame}
use Rattle.judging.specs.rules.Spoiled.{side_ok, slope_ok}
use Rattle.std.specs.Prelude.{Result}
use Rattle.memory.specs.declared.refusals.Refusal.{Refusal}
use Rattle.memory.specs.rules.Refusals.{answer_number, answer_value, answer_word}
use Rattle.store.specs.rules.Outcomes.{Left, left, Told, told}
use Rattle.store.specs.rules.Readings.{Output}
use Rattle.novlizeb.specs.rules.Answers.{word_of, told_word}
use Rattle.novlizeb.specs.rules.Frames.{frame_size}

pub left-number : (n m : ℕ) (s p : List ℕ) (u : Left) → n ≡ m → left m s p ≡ u → left n s p ≡ u
left-number n m s p u e h = ap (λ (z : ℕ). left z s p) e ∙ h

pub told-number : (n m : ℕ) (o : Output) (t : Told) → n ≡ m → told m 0 o ≡ t → told n 0 o ≡ t
told-number n m o t e h = ap (λ (z : ℕ). told z 0 o) e ∙ h

pub told-word : (r : ℕ) (a : Result ℕ Refusal) (o : Output) (t : Told) → r ≡ answer_word a → told (answer_number a) (answer_value a) o ≡ t → r ≡ told_word t
told-word r a o t e h = e ∙ ap told_word h

pub told-output : (a : Result ℕ Refusal) (o : Output) (t : Told) → told (answer_number a) (answer_value a) o ≡ t → o ≡ t.output
told-output a o t h = ap (λ (z : Told). z.output) h

pub page-limits : (w h : ℕ) (slope : Float) (b : Bool) → b ≡ (side_ok w && side_ok h && slope_ok slope) → not b ≡ false → PageSides w h × WithinOne slope
unfolding slope_ok
page-limits w h slope b e z =
    let t = sym e ∙ not-false b z in
    let u = and_left (side_ok w && side_ok h) (slope_ok slope) t in
    let ew = and_left (side_ok w) (side_ok h) u in
    let eh = and_right (side_ok w) (side_ok h) u in
    let es = and_right (side_ok w && side_ok h) (slope_ok slope) t in
    let low = le (fin true 1 (pos 0)) slope in
    let high = le slope (fin false 1 (pos 0)) in (
      record {
        wide = ltb-true 0 w (and_left (ltb 0 w) (leb w max_page_side) ew);
        high = ltb-true 0 h (and_left (ltb 0 h) (leb h max_page_side) eh);
        w_fits = leb-true w max_page_side (and_right (ltb 0 w) (leb w max_page_side) ew);
        h_fits = leb-true h max_page_side (and_right (ltb 0 h) (leb h max_page_side) eh);
      },
      (yes (and_left low high es), yes (and_right low high es)),
    )

pub size_none : (w h : ℕ) (slope : Float) (b : Bool) → b ≡ (side_ok w && side_ok h && slope_ok slope) → not b ≡ true → 0 ≡ frame_size w h slope
unfolding frame_size
size_none w h slope true e z = absurd (let q : ◌≡◌ {A = ℕ} 0 1 = ap (λ (t : Bool). cond t 1 0) z in omega arith)
size_none w h slope false e z = ap (λ (t : Bool). cond t (word_of (frame w h slope).h (frame w h slope).w) 0) e

pub size-some : (w h : ℕ) (slope : Float) (b : Bool) (a c : ℕ) → b ≡ (side_ok w && side_ok h && slope_ok slope) → not b ≡ false → a ≡ (frame w h slope).w → c ≡ (frame w h slope).h
    → c * 4294967296 + a ≡ frame_size w h slope
unfolding frame_size
size-some w h slope false a c e z p q = absurd (let q : ◌≡◌ {A = ℕ} 1 0 = ap (λ (t : Bool). cond t 1 0) z in omega arith)
size-some w h slope true a c e z p q =
    (λ i. word_of (q i) (p i)) ∙ ap (λ (t : Bool). cond t (word_of (frame w h slope).h (frame w h slope).w) 0) e
