-- The entries of a shear, as the code finds them, and words held against them.
use mathlib.Core.Path.{◌≡◌, sym, ap, ◌∙◌, subst}
use mathlib.Core.Bool.{true, false}
use mathlib.Core.List.{List}
use Prim.Native.Nat.{ℕ, ◌-◌, ◌^◌, ◌≤◌, ◌<◌, max}
use native.Mathlib.Nat.{le_trans}
use native.Mathlib.Omega.{arith}
use lib.IntN.{ℤ, pos, ◌-ℤ◌}
use lib.Ieee.{Float}
use lib.ListN.{length, get_or, take}
use Rattle.memory.specs.rules.Lists.{table, greatest}
use Rattle.memory.specs.rules.Words.{same_words}
use Rattle.memory.proofs.WordLaws.{words_same, words-other}
use Rattle.rounding.specs.rules.Drift.{WithinOne}
use Rattle.rounding.proofs.DriftLaws.{drift-within}
use Rattle.levelling.specs.declared.shears.Drift.{Drift}
use Rattle.levelling.specs.declared.shears.Shear.{Shear}
use Rattle.levelling.specs.rules.Shears.{natural, drift_of, shear_of}
use Rattle.levelling.specs.stages.Entries.{least_end, LeastOf, entry_of}
use Rattle.levelling.proofs.SlopeLaws.{drift_size, falls}
use Rattle.levelling.proofs.ShearLaws.{shear_entry, OneWay, minus-least, shear-by-least, entry-at-most, level-between, greatest-of-ends}
use Rattle.levelling.proofs.FrameLaws.{drifts-one-way}

-- ---- the entries of which `least` is held to be the least
module _ (which : Drift) (slope : Float) (k : ℕ) (least : ℤ) (L : LeastOf which slope k least) where
  way : 0 < L.n → OneWay (drift_of which slope) (falls which slope) (drift_size slope) L.n
  way some = drifts-one-way which slope L.one L.n some L.few

  closed : (i : ℕ) → i < k → drift_of which slope i -ℤ least ≡ pos (shear_entry (falls which slope) (drift_size slope) L.n i)
  closed i l = ap (λ z. drift_of which slope i -ℤ z) L.least_is ∙ minus-least _ _ _ _ (way (let e = L.enough in omega arith)) i (let e = L.enough in omega arith)

  pub fewer : (j : ℕ) → j ≤ k → (m : ℤ) → m ≡ least → LeastOf which slope j m
  fewer j l m e = record { n = L.n; enough = le_trans l L.enough; few = L.few; one = L.one; least_is = e ∙ L.least_is }

  pub entry-is : (i : ℕ) → i < k → drift_of which slope i -ℤ least ≡ pos (entry_of which slope least i)
  entry-is i l = closed i l ∙ sym (ap (λ z. pos (natural z)) (closed i l))

  pub entry-small : (i : ℕ) → i < k → entry_of which slope least i ≤ 2 ^ 15
  entry-small i l =
      let e = L.enough in
      let few = L.few in
      let most = entry-at-most _ _ _ _ (way (omega arith)) i (omega arith) in
      let last = drift-within slope L.one (L.n - 1) (omega arith) in
      subst (λ v. v ≤ 2 ^ 15) (sym (ap natural (closed i l))) (omega arith)

  pub entries-level : (a b c : ℕ) → a ≤ b → b ≤ c → c < k → entry_of which slope least a ≡ entry_of which slope least c → entry_of which slope least a ≡ entry_of which slope least b
  entries-level a b c l m h q =
      let e = L.enough in
      let at : (i : ℕ) → i < k → entry_of which slope least i ≡ shear_entry (falls which slope) (drift_size slope) L.n i = λ i l. ap natural (closed i l) in
      at a (omega arith) ∙ (level-between _ _ _ _ (way (omega arith)) a b c l m (omega arith) (sym (at a (omega arith)) ∙ (q ∙ at c h)) ∙ sym (at b (omega arith)))

-- ---- a shear of n drifts, as the code holds it
module _
    (s : Shear) (which : Drift) (slope : Float) (n : ℕ) (W : WithinOne slope) (some : 0 < n) (few : n ≤ 2 ^ 15)
    (e : (s.which ≡ which) × (s.slope ≡ slope) × (s.least ≡ least_end (drift_of which slope) n))
  where
    one : WithinOne s.slope
    one = subst WithinOne (sym e.1) W

    ends : s.least ≡ least_end (drift_of s.which s.slope) n
    ends = e.2 ∙ (λ i. least_end (drift_of (sym e.0 i) (sym e.1 i)) n)

    drifts : shear_of (table (drift_of s.which s.slope) n) ≡ shear_of (table (drift_of which slope) n)
    drifts = λ i. shear_of (table (drift_of (e.0 i) (e.1 i)) n)

    pub least-of : (k : ℕ) → k ≤ n → LeastOf s.which s.slope k s.least
    least-of k l = record { n = n; enough = l; few = few; one = one; least_is = ends }

    filled : table (entry_of s.which s.slope s.least) n ≡ shear_of (table (drift_of s.which s.slope) n)
    filled = ap (λ z. table (entry_of s.which s.slope z) n) ends ∙ shear-by-least _ _ _ _ (drifts-one-way s.which s.slope one n some few)

    pub shear-filled : table (entry_of s.which s.slope s.least) n ≡ shear_of (table (drift_of which slope) n)
    shear-filled = filled ∙ drifts

    pub ends-greatest : max (entry_of s.which s.slope s.least 0) (entry_of s.which s.slope s.least (n - 1)) ≡ greatest (shear_of (table (drift_of which slope) n))
    ends-greatest =
        let O = drifts-one-way s.which s.slope one n some few in
        let at : (i : ℕ) → i < n → entry_of s.which s.slope s.least i ≡ shear_entry (falls s.which s.slope) (drift_size s.slope) n i =
        λ i l. ap natural (ap (λ z. drift_of s.which s.slope i -ℤ z) ends ∙ minus-least _ _ _ _ O i l) in
        (λ t. max (at 0 some t) (at (n - 1) (omega arith) t)) ∙ greatest-of-ends _ _ _ _ O ∙ ap greatest drifts

    module _ (words : List ℕ) (room : n ≤ length words) where
      pub shear-same : ((i : ℕ) → i < n → get_or words i 0 ≡ entry_of s.which s.slope s.least i) → true ≡ same_words (take n words) (shear_of (table (drift_of which slope) n))
      shear-same h = words_same words (entry_of s.which s.slope s.least) n room h ∙ ap (same_words (take n words)) shear-filled

      pub shear-other : (i : ℕ) → i < n → (get_or words i 0 ≡ entry_of s.which s.slope s.least i → ⊥) → false ≡ same_words (take n words) (shear_of (table (drift_of which slope) n))
      shear-other i l h = words-other words (entry_of s.which s.slope s.least) n room i l h ∙ ap (same_words (take n words)) shear-filled
