-- A loop that writes the turns: always at the end, one place further where it was a turn. And the room that they take.
use mathlib.Core.Path.{◌≡◌, refl, sym, ap, ◌∙◌, subst}
use mathlib.Core.List.{List, [], ◌∷◌, ◌++◌}
use mathlib.Core.Bool.{Bool, true, false, ◌&&◌}
use Prim.Native.Nat.{ℕ, zero, suc, ◌+◌, ◌-◌, ◌*◌, ◌/◌, ◌%◌, ◌≤◌, ◌<◌}
use native.Mathlib.Nat.{le_refl, suc-mul, mul-mod_left, mul-add-mod_self_right, mod-eq_of_lt, mul-le-mul_right}
use native.Mathlib.Omega.{arith}
use borrow.Author.Tests.{eq-eqb, ne_eqb}
use lib.ListN.{length, set, take}
use lib.Seq.{take-set-le, take-suc-set}
use Rattle.memory.specs.rules.Masks.{is_ink}
use Rattle.labelling.specs.stages.InkRuns.{ink_before, differ, append_if, turns}
use Rattle.labelling.proofs.TurnLaws.{bit, scanned, snoc-len}
use Rattle.labelling.proofs.RunLabelLaws.{ink_before-row}

-- `s[k] = i; k += t`
pub append-step : (s T : List ℕ) (t : Bool) (k i : ℕ) → take k s ≡ T → k < length s → take (k + bit t) (set s k i) ≡ append_if t i T
unfolding append_if
append-step s T true k i e h = ap (λ z. take z (set s k i)) (let q : k + 1 ≡ suc k = omega arith in q) ∙ (take-suc-set s k i h ∙ ap (λ l. l ++ (i ∷ [])) e)
append-step s T false k i e h = ap (λ z. take z (set s k i)) (let q : k + 0 ≡ k = omega arith in q) ∙ (take-set-le k s k i (le_refl k) ∙ e)

-- one dot, then the row's end
pub turns-inner : (w : ℕ) (m : List ℕ) (i : ℕ) → (suc i % w ≡ 0 → ⊥) → turns w m (suc i) ≡ append_if (differ (ink_before w m i) (is_ink m i)) i (turns w m i)
unfolding turns append_if
turns-inner w m i ne = rw (ne_eqb (suc i % w) 0 ne) (go (is_ink m i) (append_if (differ (ink_before w m i) (is_ink m i)) i (turns w m i)))
  where
    go : (v : Bool) (l : List ℕ) → append_if (v && false) (suc i) l ≡ l
    go true l = refl
    go false l = refl

pub turns-last : (w : ℕ) (m : List ℕ) (i : ℕ) → suc i % w ≡ 0 → turns w m (suc i) ≡ append_if (is_ink m i) (suc i) (append_if (differ (ink_before w m i) (is_ink m i)) i (turns w m i))
unfolding turns
turns-last w m i e = rw (eq-eqb (suc i % w) 0 e) (go (is_ink m i) (append_if (differ (ink_before w m i) (is_ink m i)) i (turns w m i)))
  where
    go : (v : Bool) (l : List ℕ) → append_if (v && true) (suc i) l ≡ append_if v (suc i) l
    go true l = refl
    go false l = refl

pub ink_before-inner : (w : ℕ) (m : List ℕ) (i : ℕ) → (suc i % w ≡ 0 → ⊥) → ink_before w m (suc i) ≡ is_ink m i
unfolding ink_before
ink_before-inner w m i ne = rw (ne_eqb (suc i % w) 0 ne) refl

-- Room

append-len : (t : Bool) (i : ℕ) (l : List ℕ) → length (append_if t i l) ≤ suc (length l)
unfolding append_if
append-len true i l = let e = snoc-len l i in omega arith
append-len false i l = omega arith

module _ (w : ℕ) (m : List ℕ) (hw : 0 < w) where
  room-inner : (r : ℕ) → length (turns w m (r * w)) ≤ 2 * (r * ((w + 1) / 2)) → (x : ℕ) → x < w → length (turns w m (r * w + x)) ≤ 2 * (r * ((w + 1) / 2)) + x
  room-inner r h zero l = subst (λ z. length (turns w m z) ≤ 2 * (r * ((w + 1) / 2)) + 0) (let e : r * w ≡ r * w + 0 = omega arith in e) (omega arith)
  room-inner r h (suc x) l =
      let e : suc (r * w + x) ≡ r * w + suc x = omega arith in
      let q : (r * w + suc x) % w ≡ suc x = mul-add-mod_self_right r w (suc x) ∙ mod-eq_of_lt l in
      let ih = room-inner r h x (omega arith) in
      let s = turns-inner w m (r * w + x) (λ z. let q₂ = sym (ap (λ z. z % w) e) ∙ z in omega (arith, q, q₂)) in
      let p = append-len (differ (ink_before w m (r * w + x)) (is_ink m (r * w + x))) (r * w + x) (turns w m (r * w + x)) in
      let s₂ = ap length (sym (ap (turns w m) e) ∙ s) in
      omega arith

  room_row : (r : ℕ) → length (turns w m (r * w)) ≤ 2 * (r * ((w + 1) / 2))
  unfolding turns
  room_row zero = let z : length (turns w m (0 * w)) ≡ 0 = ap (λ k. length (turns w m k)) (let e : 0 * w ≡ 0 = omega arith in e) in omega arith
  room_row (suc r) =
      let e : suc r * w ≡ suc (r * w + (w - 1)) = suc-mul r w ∙ (let z : r * w + w ≡ suc (r * w + (w - 1)) = omega arith in z) in
      let ih = room-inner r (room_row r) (w - 1) (omega arith) in
      let z : suc r * w % w ≡ 0 = mul-mod_left (suc r) w in
      let s = ap length (ap (turns w m) e ∙ turns-last w m (r * w + (w - 1)) (sym (ap (λ z. z % w) e) ∙ z)) in
      let p = append-len (differ (ink_before w m (r * w + (w - 1))) (is_ink m (r * w + (w - 1)))) (r * w + (w - 1)) (turns w m (r * w + (w - 1))) in
      let p₂ = append-len (is_ink m (r * w + (w - 1))) (suc (r * w + (w - 1))) (append_if (differ (ink_before w m (r * w + (w - 1))) (is_ink m (r * w + (w - 1)))) (r * w + (w - 1)) (turns w m (r * w + (w - 1)))) in
      let two = (scanned w m hw (suc r * w)).0 in
      let off = ap bit (ink_before-row w m (suc r * w) z) in
      let f : suc r * ((w + 1) / 2) ≡ r * ((w + 1) / 2) + (w + 1) / 2 = suc-mul r ((w + 1) / 2) in
      omega arith

  -- at each dot of a mask h rows high there is room for one turn more in 2 x h x (half the width, rounded up)
  pub turns-room : (h r x : ℕ) → r < h → x < w → length (turns w m (r * w + x)) < 2 * (h * ((w + 1) / 2))
  turns-room h r x l lx =
      let a = room-inner r (room_row r) x lx in
      let f : suc r * ((w + 1) / 2) ≡ r * ((w + 1) / 2) + (w + 1) / 2 = suc-mul r ((w + 1) / 2) in
      let g : suc r * ((w + 1) / 2) ≤ h * ((w + 1) / 2) = mul-le-mul_right ((w + 1) / 2) l in
      omega arith

  -- and so many in all
  pub turns_fit : (h : ℕ) → length (turns w m (h * w)) ≤ 2 * (h * ((w + 1) / 2))
  turns_fit = room_row

-- Dots all alike, as the one before, and no row's end among them: no turn. So chunks may be skipped

still : (v : Bool) (i : ℕ) (l : List ℕ) → append_if (differ v v) i l ≡ l
unfolding append_if differ
still true i l = refl
still false i l = refl

pub turns-still : (w : ℕ) (m : List ℕ) (v : Bool) (i d : ℕ) → ink_before w m i ≡ v → ((k : ℕ) → i ≤ k → k < i + d → is_ink m k ≡ v) → ((k : ℕ) → i < k → k ≤ i + d → k % w ≡ 0 → ⊥) → (turns w m (i + d) ≡ turns w m i) × (ink_before w m (i + d) ≡ v)
turns-still w m v i zero b h ne = let e : i + 0 ≡ i = omega arith in (ap (turns w m) e, ap (ink_before w m) e ∙ b)
turns-still w m v i (suc d) b h ne =
    let e : i + suc d ≡ suc (i + d) = omega arith in
    let ih = turns-still w m v i d b (λ k a c. h k a (omega arith)) (λ k a c. ne k a (omega arith)) in
    let z = ne (suc (i + d)) (omega arith) (omega arith) in
    let y : is_ink m (i + d) ≡ v = h (i + d) (omega arith) (omega arith) in (
      ap (turns w m) e ∙ (turns-inner w m (i + d) z ∙ rw (ih.1, y) (still v (i + d) (turns w m (i + d)) ∙ ih.0)),
      ap (ink_before w m) e ∙ (ink_before-inner w m (i + d) z ∙ y),
    )
