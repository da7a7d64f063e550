-- The frame that an unspoiled store holds: its frame words, and the two shears behind the header.
use mathlib.Core.Path.{◌≡◌, refl, sym, ap, ◌∙◌}
use mathlib.Core.Bool.{Bool, true, false, not, ◌&&◌, true≢false}
use mathlib.Core.List.{List, [], ◌++◌}
use Prim.Native.Nat.{ℕ, ◌+◌, ◌≤◌}
use native.Mathlib.Decide.{dec_le}
use native.Mathlib.Omega.{arith}
use borrow.Author.Tests.{eqb-true}
use lib.ListN.{length, take, drop, drop_of_length-le}
use lib.Seq.{take-add, take_all, take-nil, take-take, take_at, drop_at, drop-drop, length-take-le}
use Rattle.memory.proofs.WordLaws.{same-sound}
use Rattle.levelling.proofs.FrameLaws.{length-shears}
use Rattle.judging.specs.rules.Header.{held, frame_held, part, header_words}
use Rattle.judging.specs.rules.Spoiled.{limits_ok, frame_differs, frame_spoiled}
use Rattle.judging.proofs.LimitLaws.{limited}

three : (a b c : Bool) → not (a && b && c) ≡ false → (a ≡ true) × (b ≡ true) × (c ≡ true)
three true true true e = (refl, refl, refl)
three true true false e = absurd (true≢false e)
three true false c e = absurd (true≢false e)
three false b c e = absurd (true≢false e)

drop-take-add : (n k : ℕ) (l : List ℕ) → drop n (take (n + k) l) ≡ take k (drop n l)
drop-take-add n k l = go (dec_le n (length l))
  where
    go : Dec (n ≤ length l) → drop n (take (n + k) l) ≡ take k (drop n l)
    go (yes h) = ap (drop n) (take-add n k l) ∙ drop_at (take n l) (take k (drop n l)) n (length-take-le n l h)
    go (no h) =
        let e : drop n l ≡ [] = drop_of_length-le l {i = n} (omega arith) in
        ap (drop n) (take_all (n + k) l (omega arith)) ∙ (e ∙ sym (ap (take k) e ∙ take-nil k))

module _ (s : List ℕ) (limits : limits_ok (held s) ≡ true) (unspoiled : frame_spoiled s ≡ false) where
  pub frame-words : ((held s).w ≡ (frame_held (held s)).w) × ((held s).h ≡ (frame_held (held s)).h) × (part header_words ((held s).page_w + (frame_held (held s)).h) s ≡ (frame_held (held s)).shear ++ (frame_held (held s)).shear_x)
  unfolding frame_spoiled frame_differs
  frame-words = let z = three _ _ _ unspoiled in (eqb-true _ _ z.0, eqb-true _ _ z.1, same-sound _ _ z.2)

  lengths : (length (frame_held (held s)).shear ≡ (held s).page_w) × (length (frame_held (held s)).shear_x ≡ (frame_held (held s)).h)
  lengths = let L = limited (held s) limits in length-shears (held s).page_w (held s).page_h (held s).slope L.sides L.within

  pub first-held : take (held s).page_w (drop header_words s) ≡ (frame_held (held s)).shear
  unfolding part
  first-held =
      let n = (held s).page_w in
      let k = (frame_held (held s)).h in
      sym (take-take n (n + k) (drop header_words s) (omega arith)) ∙ (ap (take n) frame-words.2 ∙ take_at (frame_held (held s)).shear (frame_held (held s)).shear_x n lengths.0)

  pub second-held : take (frame_held (held s)).h (drop (header_words + (held s).page_w) s) ≡ (frame_held (held s)).shear_x
  unfolding part
  second-held =
      let n = (held s).page_w in
      let k = (frame_held (held s)).h in
      ap (take k) (sym (drop-drop n header_words s))
      ∙ (sym (drop-take-add n k (drop header_words s)) ∙ (ap (drop n) frame-words.2 ∙ drop_at (frame_held (held s)).shear (frame_held (held s)).shear_x n lengths.0))
