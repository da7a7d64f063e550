-- What the labelling gives: an ink dot has a label from 1 to the number of components, a blank dot has 0.
use mathlib.Core.Path.{◌≡◌, sym}
use mathlib.Core.List.{List}
use mathlib.Core.Bool.{true, false}
use Prim.Native.Nat.{ℕ, suc, ◌≤◌, ◌<◌}
use native.Mathlib.Omega.{arith}
use borrow.Author.Tests.{eq-eqb}
use Rattle.memory.specs.rules.Lists.{count_if}
use Rattle.memory.proofs.BoolLaws.{and_left, and_right}
use Rattle.union_find.specs.rules.Classes.{first_of, firsts}
use Rattle.memory.specs.rules.Masks.{is_ink}
use Rattle.labelling.specs.rules.Labels.{touches, is_first, label_at}
use Rattle.union_find.specs.rules.Chains.{Chain, here, rise, fall, Firsts}
use Rattle.union_find.proofs.FirstLaws.{firsts-right, along}
use Rattle.memory.proofs.PlaceLaws.{count-mono}

touch-ink : (w : ℕ) (m : List ℕ) (a b : ℕ) → touches w m a b ≡ true → (is_ink m a ≡ true) × (is_ink m b ≡ true)
unfolding touches
touch-ink w m a b e =
    let s = and_left _ _ (and_left _ _ (and_left _ _ (and_left _ _ e))) in
    (and_left (is_ink m a) (is_ink m b) s, and_right (is_ink m a) (is_ink m b) s)

chain-ink : (w : ℕ) (m : List ℕ) {n a b : ℕ} → Chain (touches w m) n a b → is_ink m a ≡ true → is_ink m b ≡ true
chain-ink w m here k = k
chain-ink w m (rise {a = a} {b = b} l h t c) k = chain-ink w m c (touch-ink w m a b t).1
chain-ink w m (fall {a = a} {b = b} l h t c) k = chain-ink w m c (touch-ink w m b a t).0

-- an ink dot has a label from 1 to the number of components
pub label-in : (w n : ℕ) (m : List ℕ) (j : ℕ) → j < n → is_ink m j ≡ true
    → (0 < label_at m (firsts (touches w m) n) j) × (label_at m (firsts (touches w m) n) j ≤ count_if (is_first m (firsts (touches w m) n)) n)
label-in w n m j l k = (rw e (unfold count_if in rw lead (omega arith)), rw e (count-mono _ _ _ (let h = F.low j in omega arith)))
  where
    F : Firsts (touches w m) n (first_of (firsts (touches w m) n))
    F = firsts-right (touches w m) n

    e : label_at m (firsts (touches w m) n) j ≡ count_if (is_first m (firsts (touches w m) n)) (suc (first_of (firsts (touches w m) n) j))
    e = unfold label_at in rw k

    lead : is_first m (firsts (touches w m) n) (first_of (firsts (touches w m) n) j) ≡ true
    lead = unfold is_first in rw (chain-ink w m (F.sound j) k, eq-eqb _ _ (sym (along F (F.sound j))))

pub label-none : (m l : List ℕ) (j : ℕ) → is_ink m j ≡ false → label_at m l j ≡ 0
unfolding label_at
label-none m l j e = rw e
