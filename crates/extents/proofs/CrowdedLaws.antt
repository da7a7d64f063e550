-- Extents along a row where its runs are short or many.
use mathlib.Core.Path.{◌≡◌, refl, sym, ap, ◌∙◌, subst}
use mathlib.Core.Bool.{Bool, true, false, cond, not, ◌&&◌, true≢false}
use mathlib.Core.List.{List}
use Prim.Native.Nat.{ℕ, zero, suc, ◌+◌, ◌-◌, ◌≤◌, ◌<◌, min}
use native.Mathlib.Nat.{le_refl}
use native.Mathlib.Decide.{ℕ_discrete, dec_lt}
use native.Mathlib.Omega.{arith}
use lib.ListN.{length, get_or, set, length-set}
use lib.Seq.{get_or-set_same, get_or-set_other, ext_get_or}
use lib.Dec.{ltb}
use Rattle.memory.specs.rules.Lists.{table}
use Rattle.memory.proofs.TableLaws.{length-table, get_or-table}
use Rattle.memory.specs.rules.Limits.{max_extent}
use Rattle.memory.specs.rules.Masks.{is_ink}
use Rattle.extents.specs.rules.Extents.{behind, ahead, run_through, extent}
use Rattle.extents.specs.stages.Scans.{Starts, clear, blank, until, RowTo, RowParts, RowCounted, PartOfRow, no_four, short_extent, short_extent_at, single_dot}
use Rattle.extents.specs.stages.Bands.{Put}
use Rattle.extents.proofs.OverLaws.{until-below, until-from}
use Rattle.extents.proofs.RunLaws.{behind-on, behind-off, ahead-on, ahead-off, run_through-on, run_through-off, run_through-next, run_through-counted, starts-run}
use Rattle.extents.proofs.ExtentLaws.{ink-zero, row-size}

-- Starts

pub starts-here : (row : List ℕ) (r : ℕ) → get_or row r 0 ≡ 0 → Starts (is_ink row) r
starts-here row r e = blank (ink-zero row r e)

pub starts-after : (row : List ℕ) (r : ℕ) → 0 < r → get_or row (r - 1) 0 ≡ 0 → Starts (is_ink row) r
starts-after row r l e =
    let z : suc (r - 1) ≡ r = omega arith in
    clear (ap (behind (is_ink row)) (sym z) ∙ behind-off (is_ink row) (r - 1) (ink-zero row (r - 1) e))

-- Parts of a row

module _ {row : List ℕ} {x : ℕ} {e : List ℕ} (R : RowTo row x e) where
  row_below : (k : ℕ) → k < x → get_or e k 0 ≡ extent (is_ink row) (length row) k
  row_below k l = ap (λ z. get_or z k 0) R.held ∙ (get_or-table _ (length row) k 0 (let h = R.inside in omega arith) ∙ until-below x (extent (is_ink row) (length row)) (single_dot row) k l)

  row-above : (k : ℕ) → x ≤ k → k < length row → get_or e k 0 ≡ single_dot row k
  row-above k l h = ap (λ z. get_or z k 0) R.held ∙ (get_or-table _ (length row) k 0 h ∙ until-from x (extent (is_ink row) (length row)) (single_dot row) k l)

  pub parts_none : (to : ℕ) (f : ℕ → ℕ) → x ≤ to → to ≤ length row → RowParts row x x to f (single_dot row) e
  parts_none to f l h =
      record {
        size = row-size row x e R;
        below = row_below;
        first = λ k a b. absurd (omega arith);
        second = λ k a b. row-above k a (omega arith);
        above = λ k a b. row-above k (omega arith) b;
      }

module _ {row : List ℕ} {x i to : ℕ} {f g : ℕ → ℕ} {e : List ℕ} where
  -- one more dot of the first part
  pub parts_more : RowParts row x i to f g e → x ≤ i → i < to → to ≤ length row → (v : ℕ) → v ≡ f i → RowParts row x (i + 1) to f g (set e i v)
  parts_more S l h n v q =
      record {
        size = length-set e i v ∙ S.size;
        below = λ k a. get_or-set_other e i k v 0 (λ z. omega arith) ∙ S.below k a;
        first = λ k a b. at k a b (ℕ_discrete k i);
        second = λ k a b. get_or-set_other e i k v 0 (λ z. omega arith) ∙ S.second k (omega arith) b;
        above = λ k a b. get_or-set_other e i k v 0 (λ z. omega arith) ∙ S.above k a b;
      }
    where
      at : (k : ℕ) → x ≤ k → k < i + 1 → Dec (k ≡ i) → get_or (set e i v) k 0 ≡ f k
      at k a b (yes z) = ap (λ j. get_or (set e i v) j 0) z ∙ (get_or-set_same e i v 0 (let s = S.size in omega arith) ∙ (q ∙ ap f (sym z)))
      at k a b (no z) = get_or-set_other e i k v 0 z ∙ S.first k a (omega arith)

  -- one more dot of the second part
  pub parts-less : RowParts row x (i + 1) to f g e → i < to → to ≤ length row → x ≤ i → (v : ℕ) → v ≡ g i → RowParts row x i to f g (set e i v)
  parts-less S h n l v q =
      record {
        size = length-set e i v ∙ S.size;
        below = λ k a. get_or-set_other e i k v 0 (λ z. omega arith) ∙ S.below k a;
        first = λ k a b. get_or-set_other e i k v 0 (λ z. omega arith) ∙ S.first k a (omega arith);
        second = λ k a b. at k a b (ℕ_discrete k i);
        above = λ k a b. get_or-set_other e i k v 0 (λ z. omega arith) ∙ S.above k a b;
      }
    where
      at : (k : ℕ) → i ≤ k → k < to → Dec (k ≡ i) → get_or (set e i v) k 0 ≡ g k
      at k a b (yes z) = ap (λ j. get_or (set e i v) j 0) z ∙ (get_or-set_same e i v 0 (let s = S.size in omega arith) ∙ (q ∙ ap g (sym z)))
      at k a b (no z) = get_or-set_other e i k v 0 z ∙ S.second k (omega arith) b

-- all have their extents
row-whole : (row : List ℕ) (to : ℕ) (e : List ℕ) → to ≤ length row → Starts (is_ink row) to → length e ≡ length row
    → ((k : ℕ) → k < to → get_or e k 0 ≡ extent (is_ink row) (length row) k) → ((k : ℕ) → to ≤ k → k < length row → get_or e k 0 ≡ single_dot row k) → RowTo row to e
row-whole row to e h s n a b =
    let F = until to (extent (is_ink row) (length row)) (single_dot row) in
    record {
      inside = h;
      starts = s;
      held = ext_get_or 0 e (table F (length row)) (n ∙ sym (length-table F (length row))) (λ k l. at k (omega arith) (dec_lt k to));
    }
  where
    at : (k : ℕ) → k < length row → Dec (k < to) → get_or e k 0 ≡ get_or (table (until to (extent (is_ink row) (length row)) (single_dot row)) (length row)) k 0
    at k l (yes z) = a k z ∙ sym (get_or-table _ (length row) k 0 l ∙ until-below to (extent (is_ink row) (length row)) (single_dot row) k z)
    at k l (no z) = b k (omega arith) l ∙ sym (get_or-table _ (length row) k 0 l ∙ until-from to (extent (is_ink row) (length row)) (single_dot row) k (omega arith))

-- the second part is the whole, and its dots have their extents
pub parts-second : (row : List ℕ) (x i to : ℕ) (f : ℕ → ℕ) (e : List ℕ) → RowParts row x i to f (extent (is_ink row) (length row)) e → i ≤ x → x ≤ i → PartOfRow row x to → RowTo row to e
parts-second row x i to f e S l h P =
    row-whole row to e (let n = P.inside in omega arith) P.upto S.size (λ k a. at k a (dec_lt k x)) S.above
  where
    at : (k : ℕ) → k < to → Dec (k < x) → get_or e k 0 ≡ extent (is_ink row) (length row) k
    at k a (yes z) = S.below k z
    at k a (no z) = S.second k (omega arith) a

-- extents put from x on
pub row_put : {row : List ℕ} {x to : ℕ} {s e : List ℕ} → RowTo row x s → PartOfRow row x to → Put (extent (is_ink row) (length row)) x to s e → RowTo row to e
row_put {row} {x} {to} {s} {e} R P Q =
    row-whole row to e (let n = P.inside in omega arith) P.upto (Q.size ∙ row-size row x s R) (λ k a. at k a (dec_lt k x)) (λ k a b. Q.upper k a ∙ row-above R k (let o = P.order in omega arith) b)
  where
    at : (k : ℕ) → k < to → Dec (k < x) → get_or e k 0 ≡ extent (is_ink row) (length row) k
    at k a (yes z) = Q.lower k z ∙ row_below R k z
    at k a (no z) = Q.put k (omega arith) a

-- Counts

-- what is counted at a dot, from what was counted before it
pub count-more : (p : ℕ → Bool) (i count : ℕ) (b : Bool) → p i ≡ b → (p i ≡ true → count ≡ behind p i) → cond b (count + 1) 0 ≡ behind p (suc i)
count-more p i count true e h = let a = h e in let q = behind-on p i e in omega arith
count-more p i count false e h = sym (behind-off p i e)

ink_is : (m : List ℕ) (i : ℕ) → is_ink m i ≡ ltb 0 (get_or m i 0)
unfolding is_ink
ink_is m i = refl

pub count_at : (row : List ℕ) (i count v : ℕ) → (is_ink row i ≡ true → count ≡ behind (is_ink row) i) → v ≡ cond (ltb 0 (get_or row i 0)) (count + 1) 0 → v ≡ behind (is_ink row) (suc i)
count_at row i count v h e = e ∙ count-more (is_ink row) i count (ltb 0 (get_or row i 0)) (ink_is row i) h

pub count_small : (row : List ℕ) (i count x v : ℕ) → x ≤ i → count ≤ i - x → v ≡ cond (ltb 0 (get_or row i 0)) (count + 1) 0 → v ≤ i + 1 - x
count_small row i count x v l h e = go (ltb 0 (get_or row i 0)) e
  where
    go : (b : Bool) → v ≡ cond b (count + 1) 0 → v ≤ i + 1 - x
    go true q = omega arith
    go false q = omega arith

-- no more than there are dots from a start on
behind-from : (p : ℕ → Bool) (x d : ℕ) → Starts p x → p (x + d) ≡ true → behind p (x + d) ≤ d
behind-from p x zero S e = let z : x + 0 ≡ x = omega arith in let q = starts-run p x S (ap p (sym z) ∙ e) in let w = ap (behind p) z in omega arith
behind-from p x (suc d) S e = step (p (x + d)) refl (behind-from p x d S)
  where
    step : (b : Bool) → p (x + d) ≡ b → (p (x + d) ≡ true → behind p (x + d) ≤ d) → behind p (x + suc d) ≤ suc d
    step true q ih = let h = ih q in let w = ap (behind p) (let y : x + suc d ≡ suc (x + d) = omega arith in y) ∙ behind-on p (x + d) q in omega arith
    step false q ih = let w = ap (behind p) (let y : x + suc d ≡ suc (x + d) = omega arith in y) ∙ behind-off p (x + d) q in omega arith

pub behind-within : (p : ℕ → Bool) (x i : ℕ) → Starts p x → x ≤ i → p i ≡ true → behind p i ≤ i - x
behind-within p x i S l e = let z : x + (i - x) ≡ i = omega arith in let h = behind-from p x (i - x) S (ap p z ∙ e) in let w = ap (behind p) z in omega arith

-- so a chunk of 64 dots caps none
counted-within : (p : ℕ → Bool) (x i : ℕ) → Starts p x → x ≤ i → i < x + 64 → min (behind p (suc i)) max_extent ≡ behind p (suc i)
counted-within p x i S l h = go (p i) refl
  where
    go : (b : Bool) → p i ≡ b → min (behind p (suc i)) max_extent ≡ behind p (suc i)
    go true e = let a = behind-within p x i S l e in let q = behind-on p i e in omega arith
    go false e = let q = behind-off p i e in omega arith

-- the extent of a dot: that of the next where both are ink, else its count
pub extent-back : (p : ℕ → Bool) (n x i : ℕ) → Starts p x → x ≤ i → i < x + 64 → i + 1 < n → (later : ℕ) → (p i ≡ true → p (i + 1) ≡ true → later ≡ extent p n (i + 1))
    → cond (p i && p (i + 1)) later (behind p (suc i)) ≡ extent p n i
unfolding extent
extent-back p n x i S l h b later q = go (p i) refl (p (i + 1)) refl
  where
    next : i + 1 ≡ suc i
    next = omega arith

    go : (a : Bool) → p i ≡ a → (d : Bool) → p (i + 1) ≡ d → cond (a && d) later (behind p (suc i)) ≡ min (run_through p n i) max_extent
    go true e true f = q e f ∙ ap (λ r. min r max_extent) (ap (run_through p n) next ∙ sym (run_through-next p n i (omega arith) e (ap p (sym next) ∙ f)))
    go true e false f = sym (ap (λ r. min r max_extent) (run_through-counted p n i (omega arith) (ap p (sym next) ∙ f)) ∙ counted-within p x i S l h)
    go false e d f = behind-off p i e ∙ sym (ap (λ r. min r max_extent) (run_through-off p n i e))

-- no dot just before a start that is ink
start-clear : (p : ℕ → Bool) (x : ℕ) → Starts p (suc x) → p (suc x) ≡ true → p x ≡ true → ⊥
start-clear p x S e f = let a = starts-run p (suc x) S e in let b = behind-on p x f in omega arith

-- the dot before i takes what i has, or has its own
pub back_at : (row : List ℕ) (x i to : ℕ) (e : List ℕ) → PartOfRow row x to → to ≤ x + 64 → RowCounted row x i to e → x < i → i ≤ to → (later v : ℕ)
    → (i < to → later ≡ extent (is_ink row) (length row) i) → v ≡ cond (ltb 0 (get_or row (i - 1) 0) && ltb 0 (get_or row (i - 1 + 1) 0)) later (get_or e (i - 1) 0)
    → v ≡ extent (is_ink row) (length row) (i - 1)
back_at row x i to e P few C l h later v q w =
    w
    ∙ ((λ j. cond (sym (ink_is row (i - 1)) j && sym (ink_is row (i - 1 + 1)) j) later (C.first (i - 1) (omega arith) (omega arith) j))
    ∙ extent-back (is_ink row) (length row) x (i - 1) P.from (omega arith) (omega arith) (let n = P.inside in omega arith) later next)
  where
    z : i - 1 + 1 ≡ i
    z = omega arith

    next : is_ink row (i - 1) ≡ true → is_ink row (i - 1 + 1) ≡ true → later ≡ extent (is_ink row) (length row) (i - 1 + 1)
    next a b = go (dec_lt i to)
      where
        go : Dec (i < to) → later ≡ extent (is_ink row) (length row) (i - 1 + 1)
        go (yes d) = q d ∙ ap (extent (is_ink row) (length row)) (sym z)
        go (no d) =
            let y : suc (i - 1) ≡ to = omega arith in
            absurd (start-clear (is_ink row) (i - 1) (subst (Starts (is_ink row)) (sym y) P.upto) (ap (is_ink row) (let u : suc (i - 1) ≡ i - 1 + 1 = omega arith in u) ∙ b) a)

-- Short runs

-- the third of five dots, where no more than two before it and two behind it are of its run
short-at : (p : ℕ → Bool) (m q : ℕ) → p (suc (suc m)) ≡ true → (p m ≡ true → p (suc m) ≡ true → behind p m ≡ 0)
    → (p (suc (suc (suc m))) ≡ true → p (suc (suc (suc (suc m)))) ≡ true → p (suc (suc (suc (suc (suc m))))) ≡ false)
    → behind p (suc (suc m)) + ahead p (suc (suc m)) (suc (suc (suc (suc q))))
    ≡ 1 + cond (p (suc m)) (cond (p m) 2 1) 0 + cond (p (suc (suc (suc m)))) (cond (p (suc (suc (suc (suc m))))) 2 1) 0
short-at p m q e before after =
    let a = left (p (suc m)) refl (p m) refl in
    let b = ahead-on p (suc (suc m)) (suc (suc (suc q))) e in
    let c = right (p (suc (suc (suc m)))) refl (p (suc (suc (suc (suc m))))) refl in
    omega arith
  where
    left : (a : Bool) → p (suc m) ≡ a → (b : Bool) → p m ≡ b → behind p (suc (suc m)) ≡ cond a (cond b 2 1) 0
    left true f true g = let h = before g f in let u = behind-on p (suc m) f in let v = behind-on p m g in omega arith
    left true f false g = let u = behind-on p (suc m) f in let v = behind-off p m g in omega arith
    left false f b g = behind-off p (suc m) f

    right : (a : Bool) → p (suc (suc (suc m))) ≡ a → (b : Bool) → p (suc (suc (suc (suc m)))) ≡ b → ahead p (suc (suc (suc m))) (suc (suc (suc q))) ≡ cond a (cond b 2 1) 0
    right true f true g =
        let h = ahead-off p (suc (suc (suc (suc (suc m))))) (suc q) (after f g) in
        let u = ahead-on p (suc (suc (suc m))) (suc (suc q)) f in
        let v = ahead-on p (suc (suc (suc (suc m)))) (suc q) g in
        omega arith
    right true f false g = let u = ahead-on p (suc (suc (suc m))) (suc (suc q)) f in let v = ahead-off p (suc (suc (suc (suc m)))) (suc (suc q)) g in omega arith
    right false f b g = ahead-off p (suc (suc (suc m))) (suc (suc (suc q))) f

all-four : (a b c d : Bool) → a ≡ true → b ≡ true → c ≡ true → d ≡ true → (a && b && c && d) ≡ false → ⊥
all-four a b c d ea eb ec ed e = true≢false (sym (λ i. ea i && eb i && ec i && ed i) ∙ e)

module _ (row : List ℕ) (x to : ℕ) (S : Starts (is_ink row) x) (room : to + 3 ≤ length row) (short : (k : ℕ) → x ≤ k → k < to → no_four row k) where
  abbrev p : ℕ → Bool
  p = is_ink row

  four : (k : ℕ) → x ≤ k → k < to → p k ≡ true → p (suc k) ≡ true → p (suc (suc k)) ≡ true → p (suc (suc (suc k))) ≡ true → ⊥
  four k l h a b c d =
      all-four (p k) (p (k + 1)) (p (k + 2)) (p (k + 3)) a (ap p (let z : k + 1 ≡ suc k = omega arith in z) ∙ b) (ap p (let z : k + 2 ≡ suc (suc k) = omega arith in z) ∙ c)
      (ap p (let z : k + 3 ≡ suc (suc (suc k)) = omega arith in z) ∙ d) (short k l h)

  hit : (y : ℕ) → x ≡ suc y → p (suc y) ≡ true → p y ≡ true → ⊥
  hit y z a b = start-clear p y (subst (Starts p) z S) a b

  not-four : (j : ℕ) → x ≤ suc (suc (suc j)) → suc (suc (suc j)) < to → p (suc j) ≡ true → p (suc (suc j)) ≡ true → p (suc (suc (suc j))) ≡ true → p j ≡ true → ⊥
  not-four j l h b c d a = go (dec_lt j x) (ℕ_discrete x (suc j)) (ℕ_discrete x (suc (suc j)))
    where
      go : Dec (j < x) → Dec (x ≡ suc j) → Dec (x ≡ suc (suc j)) → ⊥
      go (no u) v w = four j (omega arith) (omega arith) a b c d
      go (yes u) (yes v) w = hit j v b a
      go (yes u) (no v) (yes w) = hit (suc j) w c b
      go (yes u) (no v) (no w) = hit (suc (suc j)) (let z : x ≡ suc (suc (suc j)) = omega arith in z) d c

  two-before : (m : ℕ) → x ≤ suc (suc m) → suc (suc m) < to → p (suc (suc m)) ≡ true → p m ≡ true → p (suc m) ≡ true → behind p m ≡ 0
  unfolding behind
  two-before zero l h e a b = refl
  two-before (suc j) l h e a b = go (p j) refl
    where
      go : (t : Bool) → p j ≡ t → behind p (suc j) ≡ 0
      go false f = behind-off p j f
      go true f = absurd (not-four j l h a b e f)

  two-behind : (m : ℕ) → x ≤ suc (suc m) → suc (suc m) < to → p (suc (suc m)) ≡ true → p (suc (suc (suc m))) ≡ true → p (suc (suc (suc (suc m)))) ≡ true → p (suc (suc (suc (suc (suc m))))) ≡ false
  two-behind m l h e a b = go (p (suc (suc (suc (suc (suc m)))))) refl
    where
      go : (t : Bool) → p (suc (suc (suc (suc (suc m))))) ≡ t → p (suc (suc (suc (suc (suc m))))) ≡ false
      go false f = f
      go true f = absurd (four (suc (suc m)) l h e a b f)

  short-sum : (a b d e : Bool) → 1 + cond b (cond a 2 1) 0 + cond d (cond e 2 1) 0 ≤ 5
  short-sum a b d e = let u = small b a in let v = small d e in omega arith
    where
      small : (s t : Bool) → cond s (cond t 2 1) 0 ≤ 2
      small true true = le_refl 2
      small true false = omega arith
      small false t = omega arith

  core : (m : ℕ) → x ≤ suc (suc m) → suc (suc m) < to
      → short_extent (p m) (p (suc m)) (p (suc (suc m))) (p (suc (suc (suc m)))) (p (suc (suc (suc (suc m))))) ≡ extent p (length row) (suc (suc m))
  unfolding extent
  core m l h = go (p (suc (suc m))) refl
    where
      go : (t : Bool) → p (suc (suc m)) ≡ t → short_extent (p m) (p (suc m)) t (p (suc (suc (suc m)))) (p (suc (suc (suc (suc m))))) ≡ min (run_through p (length row) (suc (suc m))) max_extent
      go false e = sym (ap (λ r. min r max_extent) (run_through-off p (length row) (suc (suc m)) e))
      go true e =
          let q = length row - suc (suc m) - 4 in
          let z : length row - suc (suc m) ≡ suc (suc (suc (suc q))) = omega arith in
          let a = run_through-on p (length row) (suc (suc m)) e in
          let b = ap (ahead p (suc (suc m))) z in
          let c = short-at p m q e (two-before m l h e) (two-behind m l h e) in
          let d = short-sum (p m) (p (suc m)) (p (suc (suc (suc m)))) (p (suc (suc (suc (suc m))))) in
          omega arith

  -- the extent of a dot of short runs
  pub short-is : (i : ℕ) → 2 ≤ x → x ≤ i → i < to → short_extent_at row i ≡ extent (is_ink row) (length row) i
  short-is i two l h =
      let m = i - 2 in
      let e₁ : i - 1 ≡ suc m = omega arith in
      let e₂ : i ≡ suc (suc m) = omega arith in
      let e₃ : i + 1 ≡ suc (suc (suc m)) = omega arith in
      let e₄ : i + 2 ≡ suc (suc (suc (suc m))) = omega arith in
      (λ j. short_extent (p m) (p (e₁ j)) (p (e₂ j)) (p (e₃ j)) (p (e₄ j))) ∙ (core m (omega arith) (omega arith) ∙ ap (extent p (length row)) (sym e₂))

-- the five dots around dot x + k, counted from two before x
pub short-around : (row : List ℕ) (x k : ℕ) → 2 ≤ x
    → short_extent (ltb 0 (get_or row (x - 2 + k) 0)) (ltb 0 (get_or row (x - 2 + k + 1) 0)) (ltb 0 (get_or row (x - 2 + k + 2) 0)) (ltb 0 (get_or row (x - 2 + k + 3) 0)) (ltb 0 (get_or row (x - 2 + k + 4) 0)) ≡ short_extent_at row (x + k)
unfolding is_ink
short-around row x k two =
    let e₀ : x - 2 + k ≡ x + k - 2 = omega arith in
    let e₁ : x - 2 + k + 1 ≡ x + k - 1 = omega arith in
    let e₂ : x - 2 + k + 2 ≡ x + k = omega arith in
    let e₃ : x - 2 + k + 3 ≡ x + k + 1 = omega arith in
    let e₄ : x - 2 + k + 4 ≡ x + k + 2 = omega arith in
    λ j. short_extent (ltb 0 (get_or row (e₀ j) 0)) (ltb 0 (get_or row (e₁ j) 0)) (ltb 0 (get_or row (e₂ j) 0)) (ltb 0 (get_or row (e₃ j) 0)) (ltb 0 (get_or row (e₄ j) 0))

-- none so far, nor here: in the way that the loop tests it
pub short-more : (row : List ℕ) (x i : ℕ) (short : Bool) → (short ≡ true → (k : ℕ) → x ≤ k → k < i → no_four row k)
    → (short && not ((ltb 0 (get_or row i 0) && ltb 0 (get_or row (i + 1) 0)) && (ltb 0 (get_or row (i + 2) 0) && ltb 0 (get_or row (i + 3) 0)))) ≡ true → (k : ℕ) → x ≤ k → k < i + 1 → no_four row k
unfolding is_ink
short-more row x i false h q k l u = absurd (true≢false (sym q))
short-more row x i true h q k l u = go (ℕ_discrete k i)
  where
    turned : (a b c d : Bool) → not ((a && b) && (c && d)) ≡ true → (a && b && c && d) ≡ false
    turned true true true true e = absurd (true≢false (sym e))
    turned true true true false e = refl
    turned true true false d e = refl
    turned true false c d e = refl
    turned false b c d e = refl

    go : Dec (k ≡ i) → no_four row k
    go (yes z) = subst (λ j. no_four row j) (sym z) (turned (ltb 0 (get_or row i 0)) (ltb 0 (get_or row (i + 1) 0)) (ltb 0 (get_or row (i + 2) 0)) (ltb 0 (get_or row (i + 3) 0)) q)
    go (no z) = h refl k l (omega arith)
