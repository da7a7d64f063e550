-- Columns in lent words, two words each, with one frame column more.
use mathlib.Core.Path.{◌≡◌, refl, sym, ap, ◌∙◌, subst}
use mathlib.Core.Bool.{Bool, true, false}
use mathlib.Core.List.{List, [], ◌∷◌, ◌++◌}
use Prim.Native.Nat.{ℕ, zero, suc, ◌+◌, ◌-◌, ◌*◌, ◌≤◌, ◌<◌}
use native.Mathlib.Nat.{not-suc-le-zero, le_refl}
use native.Mathlib.Omega.{arith}
use borrow.Author.Tests.{lt-ltb, le-ltb}
use lib.ListN.{get_or, length, set, drop, length-append}
use lib.Seq.{sets}
use Rattle.memory.specs.rules.Words.{over}
use Rattle.memory.specs.rules.Records.{encoded}
use Rattle.memory.proofs.RecordLaws.{length-encoded, record-more}
use Rattle.memory.specs.rules.Lists.{table, keep, upto}
use native.Mathlib.Numerals.{add-one}
use Rattle.grouping.specs.rules.Columns.{column, column_runs}
use Rattle.grouping.specs.stages.Covers.{extended}
use Rattle.grouping.specs.rules.BlockRecords.{column_record}
use Rattle.grouping.specs.declared.column.Column.{Column}
use Rattle.grouping.proofs.ColumnLaws.{InOrder, rising-keep, runs-order, runs-snoc, extended-length}
use Rattle.memory.proofs.ListLaws.{keep-snoc-yes, keep-snoc-no, upto-suc}

pub two-words : (c : Column) → length (column_record c) ≡ 2
two-words c = refl

pub columns-length : (cs : List Column) → length (encoded column_record cs) ≡ length cs * 2
columns-length cs = length-encoded column_record 2 two-words cs

-- where the last word of c and the columns l after it stands
last_word : List Column → ℕ
last_word [] = 1
last_word (c ∷ l) = suc (suc (last_word l))

last-place : (l : List Column) → last_word l ≡ 2 * length l + 1
unfolding last_word
last-place [] = refl
last-place (c ∷ l) = let e = last-place l in omega arith

-- the last column goes on to x
on : (gap x : ℕ) (c : Column) (l : List Column) (rest : List ℕ) → x - (get_or (encoded column_record (c ∷ l) ++ rest) (last_word l) 0 + 1) < gap
    → (set (encoded column_record (c ∷ l) ++ rest) (last_word l) x ≡ encoded column_record (extended gap x (c ∷ l)) ++ rest) × (length (extended gap x (c ∷ l)) ≡ suc (length l))
unfolding last_word encoded extended
on gap x c [] rest h = rw (lt-ltb (x - (c.x1 + 1)) gap h) (refl, refl)
on gap x c (d ∷ l) rest h =
    let (e, n) = on gap x d l rest h in
    (ap (λ (t : List ℕ). c.x0 ∷ c.x1 ∷ t) e, ap suc n)

-- a column of its own for x
anew : (gap x : ℕ) (c : Column) (l : List Column) (rest : List ℕ) → gap ≤ x - (get_or (encoded column_record (c ∷ l) ++ rest) (last_word l) 0 + 1)
    → extended gap x (c ∷ l) ≡ c ∷ l ++ (column x x ∷ [])
unfolding last_word encoded extended
anew gap x c [] rest h = rw (le-ltb (x - (c.x1 + 1)) gap h)
anew gap x c (d ∷ l) rest h = ap (λ (t : List Column). c ∷ t) (anew gap x d l rest h)

-- what one frame column more leaves
abbrev pub Put : ℕ → ℕ → List Column → List ℕ → List ℕ → ℕ → Type 0
Put gap x cs s out r = (r ≡ length (extended gap x cs)) × (out ≡ over (encoded column_record (extended gap x cs)) s)

pub put_first : (gap x : ℕ) (out out' : List ℕ) (r : ℕ) (cs : List Column) (s : List ℕ) → 2 ≤ length out → r ≡ 0 + 1 → out' ≡ sets out (2 * 0) (x ∷ x ∷ [])
    → 0 ≡ length cs → out ≡ over (encoded column_record cs) s → Put gap x cs s out' r
unfolding extended encoded
put_first gap x out out' r [] s h a b n e = (a, b ∙ (ap (λ (t : List ℕ). sets t 0 (x ∷ x ∷ [])) e ∙ record-more column_record 2 two-words [] (column x x) s 0 refl (let z : length out ≡ length s = ap length e in omega arith)))
put_first gap x out out' r (c ∷ cs) s h a b n e = absurd (omega arith)

pub put_on : (gap x n : ℕ) (out : List ℕ) (cs : List Column) (s : List ℕ) → 0 < n → x - (get_or out (2 * n - 1) 0 + 1) < gap → 2 * n + 2 ≤ length out
    → n ≡ length cs → out ≡ over (encoded column_record cs) s → Put gap x cs s (set out (2 * n - 1) x) n
put_on gap x n out [] s p h k z e = absurd (omega arith)
put_on gap x n out (c ∷ l) s p h k z e =
    let place : 2 * n - 1 ≡ last_word l = (let q = last-place l in omega arith) in
    let rest : List ℕ = drop (length (encoded column_record (c ∷ l))) s in
    let (w, m) = on gap x c l rest (subst (λ (t : List ℕ). x - (get_or t (last_word l) 0 + 1) < gap) e (subst (λ j. x - (get_or out j 0 + 1) < gap) place h)) in
    let same : length (encoded column_record (c ∷ l)) ≡ length (encoded column_record (extended gap x (c ∷ l))) =
    (let a = columns-length (c ∷ l) in let b = columns-length (extended gap x (c ∷ l)) in omega arith) in
    (z ∙ sym m, (λ i. set (e i) (place i) x) ∙ (w ∙ ap (λ j. encoded column_record (extended gap x (c ∷ l)) ++ drop j s) same))

pub put-new : (gap x n : ℕ) (out out' : List ℕ) (r : ℕ) (cs : List Column) (s : List ℕ) → 0 < n → gap ≤ x - (get_or out (2 * n - 1) 0 + 1) → 2 * n + 2 ≤ length out
    → r ≡ n + 1 → out' ≡ sets out (2 * n) (x ∷ x ∷ []) → n ≡ length cs → out ≡ over (encoded column_record cs) s → Put gap x cs s out' r
put-new gap x n out out' r [] s p h k a b z e = absurd (omega arith)
put-new gap x n out out' r (c ∷ l) s p h k a b z e =
    let place : 2 * n - 1 ≡ last_word l = (let q = last-place l in omega arith) in
    let rest : List ℕ = drop (length (encoded column_record (c ∷ l))) s in
    let w : extended gap x (c ∷ l) ≡ c ∷ l ++ (column x x ∷ []) =
    anew gap x c l rest (subst (λ (t : List ℕ). gap ≤ x - (get_or t (last_word l) 0 + 1)) e (subst (λ j. gap ≤ x - (get_or out j 0 + 1)) place h)) in
    let q = columns-length (c ∷ l) in
    let long : length s ≡ length out = (let y : length out ≡ length (over (encoded column_record (c ∷ l)) s) = ap length e in long-over (encoded column_record (c ∷ l)) s out (omega arith) y) in (
      let y : length (extended gap x (c ∷ l)) ≡ suc (length l + 1) = ap length w ∙ ap suc (length-append l (column x x ∷ [])) in omega arith,
      b
          ∙ (ap (λ (t : List ℕ). sets t (2 * n) (x ∷ x ∷ [])) e
          ∙ (record-more column_record 2 two-words (c ∷ l) (column x x) s (2 * n) (omega arith) (omega arith) ∙ ap (λ (t : List Column). over (encoded column_record t) s) (sym w))),
    )
  where
    long-over : (v s out : List ℕ) → length v < length out → length out ≡ length (over v s) → length s ≡ length out
    long-over v s out h e = let a = length-append v (drop (length v) s) in let b = lib.ListN.length-drop (length v) s in omega arith

-- the last word is the last column's end, so it lies left of what the columns are below
pub last-below : (b w : ℕ) (cs : List Column) (rest : List ℕ) → 0 < length cs → InOrder b w cs → get_or (encoded column_record cs ++ rest) (2 * length cs - 1) 0 < w
unfolding last_word encoded
last-below b w [] rest h o = absurd (not-suc-le-zero h)
last-below b w (c ∷ l) rest h o =
    let place : last_word l ≡ 2 * suc (length l) - 1 = (let q = last-place l in omega arith) in
    subst (λ j. get_or (encoded column_record (c ∷ l) ++ rest) j 0 < w) place (go b c l o)
  where
    go : (b : ℕ) (c : Column) (l : List Column) → InOrder b w (c ∷ l) → get_or (encoded column_record (c ∷ l) ++ rest) (last_word l) 0 < w
    go b c [] (p, q, r, o) = r
    go b c (d ∷ l) (p, q, r, o) = go (suc c.x1) d l o

-- the runs of the frame columns below x that pass the test p
abbrev runs_to : ℕ → (ℕ → Bool) → ℕ → List Column
runs_to gap p x = column_runs gap (keep p (upto x))

runs-no : (gap : ℕ) (p : ℕ → Bool) (x : ℕ) → p x ≡ false → runs_to gap p (suc x) ≡ runs_to gap p x
runs-no gap p x e = ap (column_runs gap) (ap (keep p) (upto-suc x) ∙ keep-snoc-no p (upto x) x e)

runs-yes : (gap : ℕ) (p : ℕ → Bool) (x : ℕ) → p x ≡ true → runs_to gap p (suc x) ≡ extended gap x (runs_to gap p x)
runs-yes gap p x e = ap (column_runs gap) (ap (keep p) (upto-suc x) ∙ keep-snoc-yes p (upto x) x e) ∙ runs-snoc gap (keep p (upto x)) x

-- no more columns than frame columns
pub runs-few : (gap : ℕ) (p : ℕ → Bool) (x : ℕ) → length (column_runs gap (keep p (upto x))) ≤ x
unfolding column_runs keep upto table
runs-few gap p zero = le_refl 0
runs-few gap p (suc x) = go (p x) refl (runs-few gap p x)
  where
    go : (t : Bool) → p x ≡ t → length (runs_to gap p x) ≤ x → length (runs_to gap p (suc x)) ≤ suc x
    go true e h = let a = ap length (runs-yes gap p x e) in let b = extended-length gap x (runs_to gap p x) in omega arith
    go false e h = let a = ap length (runs-no gap p x e) in omega arith

-- the columns of the frame columns below x are written
pub record Written (gap : ℕ) (p : ℕ → Bool) (out₀ out : List ℕ) (n x : ℕ) : Type 0 where
  pub count : n ≡ length (column_runs gap (keep p (upto x)))
  pub words : out ≡ over (encoded column_record (column_runs gap (keep p (upto x)))) out₀

pub written_none : (gap : ℕ) (p : ℕ → Bool) (out : List ℕ) → Written gap p out out 0 0
unfolding column_runs keep upto table encoded
written_none gap p out = record { count = refl; words = refl }

module _ (gap : ℕ) (p : ℕ → Bool) (out₀ out : List ℕ) (n x : ℕ) (v : Written gap p out₀ out n x) where
  pub written-few : n ≤ x
  written-few = let a = v.count in let b = runs-few gap p x in omega arith

  pub written_last : 0 < n → get_or out (2 * n - 1) 0 < x
  written_last h =
      let cs : List Column = runs_to gap p x in
      let place : 2 * length cs - 1 ≡ 2 * n - 1 = (let a = v.count in omega arith) in
      let b : get_or (encoded column_record cs ++ drop (length (encoded column_record cs)) out₀) (2 * length cs - 1) 0 < x =
      last-below 0 x cs (drop (length (encoded column_record cs)) out₀) (let a = v.count in omega arith) (runs-order gap x (keep p (upto x)) (rising-keep p x)) in
      subst (λ (t : List ℕ). get_or t (2 * n - 1) 0 < x) (sym v.words) (subst (λ j. get_or (over (encoded column_record cs) out₀) j 0 < x) place b)

  pub written-no : p x ≡ false → Written gap p out₀ out n (x + 1)
  written-no e =
      let r : runs_to gap p x ≡ runs_to gap p (x + 1) = sym (ap (λ k. runs_to gap p k) (add-one x) ∙ runs-no gap p x e) in
      record { count = v.count ∙ ap length r; words = v.words ∙ ap (λ (t : List Column). over (encoded column_record t) out₀) r }

  pub written-yes : (out' : List ℕ) (n' : ℕ) → p x ≡ true
      → ((cs : List Column) (s : List ℕ) → n ≡ length cs → out ≡ over (encoded column_record cs) s → Put gap x cs s out' n') → Written gap p out₀ out' n' (x + 1)
  written-yes out' n' e h =
      let r : extended gap x (runs_to gap p x) ≡ runs_to gap p (x + 1) = sym (ap (λ k. runs_to gap p k) (add-one x) ∙ runs-yes gap p x e) in
      let (a, b) = h (runs_to gap p x) out₀ v.count v.words in
      record { count = a ∙ ap length r; words = b ∙ ap (λ (t : List Column). over (encoded column_record t) out₀) r }

pub written_all : (gap : ℕ) (p : ℕ → Bool) (out₀ out : List ℕ) (n x w : ℕ) → Written gap p out₀ out n x → x ≡ w
    → (n ≡ length (column_runs gap (keep p (upto w)))) × (out ≡ over (encoded column_record (column_runs gap (keep p (upto w)))) out₀)
written_all gap p out₀ out n x w v e =
    subst (λ k. (n ≡ length (column_runs gap (keep p (upto k)))) × (out ≡ over (encoded column_record (column_runs gap (keep p (upto k)))) out₀)) e (v.count, v.words)
