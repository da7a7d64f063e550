-- Tables over the front of lent words: tables of counts with one more value counted, and a table with one more entry.
use mathlib.Core.Path.{◌≡◌, refl, sym, ap, ◌∙◌}
use mathlib.Core.List.{List, [], ◌∷◌, ◌++◌}
use borrow.Author.Tests.{lt-ltb}
use Prim.Native.Nat.{ℕ, ◌+◌, ◌-◌, ◌≤◌, ◌<◌}
use native.Mathlib.Decide.{ℕ_discrete}
use native.Mathlib.Omega.{arith}
use native.Mathlib.Numerals.{add-one}
use lib.ListN.{get_or, length, set, take, drop, length-append, length-drop, length-set}
use lib.Seq.{length-take-le, drop-append_seam, ext_get_or, get_or-set_same, get_or-set_other, set-append_left}
use borrow.Rule.Slice.PartMut.{put_mid}
use Rattle.memory.specs.rules.Lists.{table, occurs}
use Rattle.memory.specs.rules.Words.{over}
use Rattle.memory.proofs.TableLaws.{length-table, get_or-table, table_step}
use Rattle.extents.proofs.OverLaws.{over-at}
use Rattle.grouping.specs.stages.Counts.{counts, below}
use Rattle.memory.proofs.PlaceLaws.{occurs-same, occurs-other, occurs-length}

pub over-table : (f : ℕ → ℕ) (n : ℕ) (s : List ℕ) → table f n ++ drop n s ≡ over (table f n) s
over-table f n s = ap (λ k. table f n ++ drop k s) (sym (length-table f n))

pub over-length : (v s : List ℕ) → length v ≤ length s → length (over v s) ≡ length s
over-length v s h = simp (length-append, length-drop) (omega arith)

-- what lies over a front lies over it again
pub over-again : (v u s : List ℕ) → length v ≡ length u → over v (over u s) ≡ over v s
over-again v u s e = ap (λ (t : List ℕ). v ++ t) (ap (λ k. drop k (over u s)) e ∙ (drop-append_seam u (drop (length u) s) ∙ ap (λ k. drop k s) (sym e)))

-- no entry yet
pub table_none : (f : ℕ → ℕ) (s : List ℕ) → s ≡ table f 0 ++ drop 0 s
unfolding table
table_none f s = refl

-- one more entry, as code has it
pub table_more : (f : ℕ → ℕ) (s : List ℕ) (i : ℕ) → i < length s → set (table f i ++ drop i s) i (f i) ≡ table f (i + 1) ++ drop (i + 1) s
table_more f s i h = rw add-one (table_step f s i h)

counts-set : (l : List ℕ) (m v : ℕ) → v < m → set (counts l m) v (occurs v l + 1) ≡ counts (l ++ (v ∷ [])) m
counts-set l m v h =
    let same : length (set (counts l m) v (occurs v l + 1)) ≡ m = length-set (counts l m) v (occurs v l + 1) ∙ length-table (λ k. occurs k l) m in
    ext_get_or 0 (set (counts l m) v (occurs v l + 1)) (counts (l ++ (v ∷ [])) m) (same ∙ sym (length-table (λ k. occurs k (l ++ (v ∷ []))) m))
    (λ k b. let inside : k < m = omega arith in
    go k inside (ℕ_discrete k v) ∙ sym (get_or-table (λ k. occurs k (l ++ (v ∷ []))) m k 0 inside))
  where
    go : (k : ℕ) → k < m → Dec (k ≡ v) → get_or (set (counts l m) v (occurs v l + 1)) k 0 ≡ occurs k (l ++ (v ∷ []))
    go k b (yes e) =
        ap (λ z. get_or (set (counts l m) v (occurs v l + 1)) z 0) e
        ∙ (get_or-set_same (counts l m) v (occurs v l + 1) 0 (let t = length-table (λ k. occurs k l) m in omega arith)
        ∙ (sym (occurs-same v l) ∙ ap (λ z. occurs z (l ++ (v ∷ []))) (sym e)))
    go k b (no n) =
        get_or-set_other (counts l m) v k (occurs v l + 1) 0 n
        ∙ (get_or-table (λ k. occurs k l) m k 0 b ∙ sym (occurs-other k v l (λ e. n (sym e))))

-- one more value counted
pub counts-more : (l s : List ℕ) (m v : ℕ) → v < m
    → set (over (counts l m) s) v (get_or (over (counts l m) s) v 0 + 1) ≡ over (counts (l ++ (v ∷ [])) m) s
counts-more l s m v h =
    let a = length-table (λ k. occurs k l) m in
    let b = length-table (λ k. occurs k (l ++ (v ∷ []))) m in
    ap (λ z. set (over (counts l m) s) v (z + 1)) (over-at (λ k. occurs k l) m s v h)
    ∙ (set-append_left (counts l m) (drop (length (counts l m)) s) v (occurs v l + 1) (omega arith)
    ∙ ((λ i. counts-set l m v h i ++ drop (a i) s) ∙ ap (λ k. counts (l ++ (v ∷ [])) m ++ drop k s) (sym b)))

-- words of the front lent and filled: `fill(&mut t[0..m], v)`
pub front-filled : (v m : ℕ) (t part : List ℕ) → m ≤ length t → part ≡ table (λ _. v) (length (take (m - 0) (drop 0 t))) → put_mid 0 (m - 0) t part ≡ over (table (λ _. v) m) t
front-filled v m t part l e =
    let z : m - 0 ≡ m = omega arith in
    let long : length (take (m - 0) (drop 0 t)) ≡ m = length-take-le (m - 0) (drop 0 t) (omega arith) ∙ z in
    (λ i. (e ∙ ap (table (λ _. v)) long) i ++ drop (z i) t) ∙ ap (λ (k : ℕ). table (λ _. v) m ++ drop k t) (sym (length-table (λ _. v) m))

-- from cleared words to counts, and back to what the words were before
pub counts_start : (t₀ t : List ℕ) (m : ℕ) → t ≡ over (table (λ v. 0) m) t₀ → t ≡ over (counts [] m) t
unfolding occurs
counts_start t₀ t m e = e ∙ (sym (over-again (table (λ v. 0) m) (table (λ v. 0) m) t₀ refl) ∙ ap (λ (z : List ℕ). over (table (λ v. 0) m) z) (sym e))

pub counts-done : (t₀ t u l : List ℕ) (m : ℕ) → t ≡ over (table (λ v. 0) m) t₀ → u ≡ over (counts l m) t → u ≡ over (counts l m) t₀
counts-done t₀ t u l m e f =
    f
    ∙ (ap (λ (y : List ℕ). over (counts l m) y) e
    ∙ over-again (counts l m) (table (λ v. 0) m) t₀ (length-table (λ v. occurs v l) m ∙ sym (length-table (λ v. 0) m)))

-- a value counted where it is below m
pub below-counted : (l s t : List ℕ) (m v : ℕ) → v < m → t ≡ over (counts l m) s
    → (1 ≡ length (below m v)) × (set t v (get_or t v 0 + 1) ≡ over (counts (l ++ below m v) m) s)
below-counted l s t m v h e =
    rw (lt-ltb v m h) (refl, ap (λ (z : List ℕ). set z v (get_or z v 0 + 1)) e ∙ counts-more l s m v h)

-- no count is more than the values
pub counted-few : (l s t : List ℕ) (m v : ℕ) → v < m → t ≡ over (counts l m) s → get_or t v 0 ≤ length l
counted-few l s t m v h e =
    let a : get_or t v 0 ≡ occurs v l = ap (λ (z : List ℕ). get_or z v 0) e ∙ over-at (λ w. occurs w l) m s v h in
    let b = occurs-length v l in
    omega arith

-- Values counted one after the other

values_more : (f : ℕ → ℕ) (i : ℕ) → table f (i + 1) ≡ table f i ++ (f i ∷ [])
unfolding table
values_more f i = ap (table f) (add-one i)

pub values_none : (f : ℕ → ℕ) (t₀ t : List ℕ) (m : ℕ) → t ≡ over (table (λ v. 0) m) t₀ → t ≡ over (counts (table f 0) m) t
unfolding table
values_none f t₀ t m e = counts_start t₀ t m e

module _ (f : ℕ → ℕ) (t₀ t : List ℕ) (m i v : ℕ) (known : t ≡ over (counts (table f i) m) t₀) (value : v ≡ f i) (low : v < m) where
  pub value_fits : get_or t v 0 ≤ i
  value_fits = let a = counted-few (table f i) t₀ t m v low known in let c = length-table f i in omega arith

  pub value-more : set t v (get_or t v 0 + 1) ≡ over (counts (table f (i + 1)) m) t₀
  value-more =
      ap (λ (z : List ℕ). set z v (get_or z v 0 + 1)) known
      ∙ (counts-more (table f i) t₀ m v low ∙ ap (λ (z : List ℕ). over (counts z m) t₀) (ap (λ a. table f i ++ (a ∷ [])) value ∙ sym (values_more f i)))
