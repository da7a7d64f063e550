-- The walk that turns starts and ends into the lines over each frame column.
use mathlib.Core.Path.{◌≡◌, refl, sym, ap, ◌∙◌, subst}
use mathlib.Core.List.{List, ◌++◌}
use Prim.Native.Nat.{ℕ, ◌+◌, ◌-◌, ◌≤◌, ◌<◌, zero-le, max}
use native.Mathlib.Nat.{le_refl}
use native.Mathlib.Omega.{arith}
use native.Mathlib.Numerals.{add-one}
use lib.ListN.{get_or, length, set, drop, length-set}
use lib.Seq.{get_or-append-add, get_or-drop}
use Rattle.memory.specs.rules.Lists.{table, greatest}
use Rattle.memory.specs.rules.Words.{over}
use Rattle.memory.proofs.GreatestLaws.{greatest-more}
use Rattle.memory.proofs.TableLaws.{length-table}
use Rattle.grouping.specs.stages.Covers.{CoverSteps}
use Rattle.grouping.proofs.TableWords.{table_more, over-table}

pub past : (f : ℕ → ℕ) (n : ℕ) (s : List ℕ) (i : ℕ) → n ≤ i → get_or (table f n ++ drop n s) i 0 ≡ get_or s i 0
past f n s i h =
    let t = length-table f n in
    let at : i ≡ length (table f n) + (i - n) = omega arith in
    let back : n + (i - n) ≡ i = omega arith in
    ap (λ k. get_or (table f n ++ drop n s) k 0) at ∙ (get_or-append-add (table f n) (drop n s) (i - n) 0 ∙ (get_or-drop n s (i - n) 0 ∙ ap (λ k. get_or s k 0) back))

-- the counts of the first x frame columns are summed
pub record Summed (w : ℕ) (s₀ : List ℕ) (f : ℕ → ℕ) (s : List ℕ) (depth busiest x : ℕ) : Type 0 where
  pub within : x ≤ w
  pub words : s ≡ table f x ++ drop x s₀
  pub len : length s ≡ length s₀
  pub here : x < w → depth + get_or s x 0 ≡ f x
  pub most : busiest ≡ greatest (table f x)

pub summed-none : (w : ℕ) (s : List ℕ) (f : ℕ → ℕ) → CoverSteps w s f → Summed w s f s 0 0 0
unfolding table greatest
summed-none w s f c = record { within = zero-le; words = refl; len = refl; here = λ h. (let e = c.first h in omega arith); most = refl }

module _ (w : ℕ) (s₀ : List ℕ) (f : ℕ → ℕ) (c : CoverSteps w s₀ f) (s : List ℕ) (depth busiest x : ℕ) (v : Summed w s₀ f s depth busiest x) (h : x < w) where
  -- what is stored is the count
  pub summed-here : depth + get_or s x 0 ≡ f x
  summed-here = v.here h

  stored : set s x (depth + get_or s x 0) ≡ table f (x + 1) ++ drop (x + 1) s₀
  stored =
      (λ i. set (v.words i) x (summed-here i)) ∙ table_more f s₀ x (let r = c.room in omega arith)

  ended-there : get_or (set s x (depth + get_or s x 0)) (w + x) 0 ≡ get_or s₀ (w + x) 0
  ended-there = ap (λ (t : List ℕ). get_or t (w + x) 0) stored ∙ past f (x + 1) s₀ (w + x) (omega arith)

  -- those that end there are among them
  pub summed-ended : get_or (set s x (depth + get_or s x 0)) (w + x) 0 ≤ depth + get_or s x 0
  summed-ended = let e = ended-there in let g = c.ended x h in let k = summed-here in omega arith

  next_here : x + 1 < w → (depth + get_or s x 0 - get_or (set s x (depth + get_or s x 0)) (w + x) 0) + get_or (set s x (depth + get_or s x 0)) (x + 1) 0 ≡ f (x + 1)
  next_here k =
      let a : get_or (set s x (depth + get_or s x 0)) (x + 1) 0 ≡ get_or s₀ (x + 1) 0 = ap (λ (t : List ℕ). get_or t (x + 1) 0) stored ∙ past f (x + 1) s₀ (x + 1) (le_refl (x + 1)) in
      let b : f (x + 1) + get_or s₀ (w + x) 0 ≡ f x + get_or s₀ (x + 1) 0 = subst (λ z. f z + get_or s₀ (w + x) 0 ≡ f x + get_or s₀ z 0) (sym (add-one x)) (c.next x (omega arith)) in
      let e = ended-there in
      let g = c.ended x h in
      let o = summed-here in
      omega arith

  pub summed-more : Summed w s₀ f (set s x (depth + get_or s x 0)) (depth + get_or s x 0 - get_or (set s x (depth + get_or s x 0)) (w + x) 0) (max busiest (depth + get_or s x 0)) (x + 1)
  summed-more =
      record {
        within = omega arith;
        words = stored;
        len = length-set s x (depth + get_or s x 0) ∙ v.len;
        here = next_here;
        most = (λ i. max (v.most i) (summed-here i)) ∙ sym (greatest-more f x);
      }

pub summed-all : (w : ℕ) (s₀ : List ℕ) (f : ℕ → ℕ) (s : List ℕ) (depth busiest x : ℕ) → Summed w s₀ f s depth busiest x → w ≤ x
    → (busiest ≡ greatest (table f w)) × (s ≡ over (table f w) s₀)
summed-all w s₀ f s depth busiest x v h =
    let e : x ≡ w = (let k = v.within in omega arith) in
    (v.most ∙ ap (λ k. greatest (table f k)) e, v.words ∙ (ap (λ k. table f k ++ drop k s₀) e ∙ over-table f w s₀))
