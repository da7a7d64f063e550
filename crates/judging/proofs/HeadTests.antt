-- The first tests on a store: its length, then what its header says.
use mathlib.Core.Path.{◌≡◌, refl, sym, ap, ◌∙◌}
use mathlib.Core.Bool.{Bool, false, not}
use Prim.Native.Nat.{ℕ, ◌≤◌, ◌<◌}
use borrow.Author.Tests.{lt-ltb, le-ltb}
use lib.Dec.{ltb}
use Rattle.memory.specs.rules.Refusals.{refuse_if}
use Rattle.judging.specs.rules.Header.{Held}
use Rattle.judging.specs.rules.Spoiled.{state_spoiled, limits_ok}
use Rattle.judging.specs.rules.Refusals.{head_refusal}

pub head-short : (store : ℕ) (g : Held) (early : Bool) (k : ℕ) → store < 64 → 9 ≡ head_refusal store g early k 0
unfolding head_refusal refuse_if
head-short store g early k h = simp (lt-ltb store 64 h)

pub head-long : (store : ℕ) (g : Held) (early : Bool) (k n : ℕ) → 64 ≤ store → n ≡ refuse_if (state_spoiled g) 16 (refuse_if early k (refuse_if (not (limits_ok g)) 16 0)) → n ≡ head_refusal store g early k 0
unfolding head_refusal
head-long store g early k n h e = e ∙ sym (passed (ltb store 64) 9 _ (le-ltb store 64 h))
  where
    passed : (b : Bool) (j x : ℕ) → b ≡ false → refuse_if b j x ≡ x
    passed b j x f = ap (λ t. refuse_if t j x) f ∙ (unfold refuse_if in refl)
