-- Words stored one after the other from a place on, while all others stay.
use mathlib.Core.Path.{◌≡◌, refl, sym, ap, ◌∙◌, subst}
use mathlib.Core.List.{List}
use Prim.Native.Nat.{ℕ, ◌+◌, ◌-◌, ◌≤◌, ◌<◌}
use native.Mathlib.Decide.{ℕ_discrete}
use native.Mathlib.Omega.{arith}
use lib.ListN.{length, get_or, take, drop, set, length-set, length-drop}
use lib.Seq.{get_or-set_same, get_or-set_other, get_or-drop, ext_get_or}
use Rattle.memory.specs.rules.Lists.{table}
use borrow.Rule.Slice.PartMut.{put_mid}
use Rattle.memory.proofs.TableLaws.{table-ext, length-table, get_or-table}
use Rattle.memory.proofs.PartLaws.{part-is-table, length_part, length-put, get_or-put}
use Rattle.memory.specs.stages.Stored.{Within, Stored}

pub within_none : (a e : ℕ) (s : List ℕ) → Within a e s s
within_none a e s = record { len = refl; before = λ i l. refl; past = λ i l. refl }

pub within-trans : {a e : ℕ} {s t u : List ℕ} → Within a e s t → Within a e t u → Within a e s u
within-trans p q =
    record { len = q.len ∙ p.len; before = λ i l. q.before i l ∙ p.before i l; past = λ i l. q.past i l ∙ p.past i l }

pub within_wider : {a e b f : ℕ} {s t : List ℕ} → Within a e s t → b ≤ a → e ≤ f → Within b f s t
within_wider p l h = record { len = p.len; before = λ i k. p.before i (omega arith); past = λ i k. p.past i (omega arith) }

pub within-set : {a e : ℕ} {s t : List ℕ} → Within a e s t → (i v : ℕ) → a ≤ i → i < e → Within a e s (set t i v)
within-set {t = t} p i v l h =
    record {
      len = length-set t i v ∙ p.len;
      before = λ k b. get_or-set_other t i k v 0 (λ z. omega arith) ∙ p.before k b;
      past = λ k b. get_or-set_other t i k v 0 (λ z. omega arith) ∙ p.past k b;
    }

-- all from word b on, past what was stored
pub within-drop : {a e : ℕ} {s t : List ℕ} → Within a e s t → (b : ℕ) → e ≤ b → drop b t ≡ drop b s
within-drop {s = s} {t = t} p b l =
    ext_get_or 0 (drop b t) (drop b s) (length-drop b t ∙ (ap (λ k. k - b) p.len ∙ sym (length-drop b s)))
    (λ i c. get_or-drop b t i 0 ∙ (p.past (b + i) (omega arith) ∙ sym (get_or-drop b s i 0)))

pub stored-none : (f : ℕ → ℕ) (at : ℕ) (s : List ℕ) → Stored f at 0 s s
stored-none f at s = record { within = within_none at (at + 0) s; each = λ i l. absurd (omega arith) }

-- one more is stored
pub stored_more : {f : ℕ → ℕ} {at n : ℕ} {s t : List ℕ} → Stored f at n s t → (i v : ℕ) → i ≡ at + n → i < length s → v ≡ f n → Stored f at (n + 1) s (set t i v)
stored_more {f} {at} {n} {s} {t} p i v e l q =
    record { within = within-set (within_wider p.within (omega arith) (omega arith)) i v (omega arith) (omega arith); each = λ k b. go k b (ℕ_discrete k n) }
  where
    go : (k : ℕ) → k < n + 1 → Dec (k ≡ n) → get_or (set t i v) (at + k) 0 ≡ f k
    go k b (yes z) =
        let w : at + k ≡ i = omega arith in
        ap (λ j. get_or (set t i v) j 0) w ∙ (get_or-set_same t i v 0 (let y = p.within.len in omega arith) ∙ (q ∙ ap f (sym z)))
    go k b (no z) = get_or-set_other t i (at + k) v 0 (λ w. z (omega arith)) ∙ p.each k (omega arith)

-- what was stored, read back
pub stored-part : {f : ℕ → ℕ} {at n : ℕ} {s t : List ℕ} → Stored f at n s t → at + n ≤ length s → take n (drop at t) ≡ table f n
stored-part {f} {at} {n} {s} {t} p l =
    part-is-table t at n 0 (let y = p.within.len in omega arith) ∙ table-ext (λ i. get_or t (at + i) 0) f n p.each

-- the word at a place of what was stored
pub stored_at : {f : ℕ → ℕ} {at n : ℕ} {s t : List ℕ} → Stored f at n s t → (k : ℕ) → at ≤ k → k < at + n → get_or t k 0 ≡ f (k - at)
stored_at {f} {at} {n} {s} {t} p k l u = ap (λ j. get_or t j 0) (let q : k ≡ at + (k - at) = omega arith in q) ∙ p.each (k - at) (omega arith)

pub stored-count : {f : ℕ → ℕ} {at n m : ℕ} {s t : List ℕ} → Stored f at n s t → n ≡ m → Stored f at m s t
stored-count {f} {at} {n} {m} {s} {t} p e = subst (λ (k : ℕ). Stored f at k s t) e p

-- a part lent and stored as a whole
pub stored-put : (f : ℕ → ℕ) (at n : ℕ) (s part : List ℕ) → at + n ≤ length s → part ≡ table f n → Stored f at n s (put_mid at n s part)
stored-put f at n s part l e =
    record {
      within = record { len = length-mid (λ (k : ℕ). length (put_mid at k s part) ≡ length s) (length-put at (at + n) s part (omega arith) l long); before = λ i b. (there i).0 b; past = λ i b. (there i).2 b };
      each = λ i b. (there (at + i)).1 (omega arith) (omega arith) ∙ (ap (λ j. get_or part j 0) (let q : at + i - at ≡ i = omega arith in q) ∙ (ap (λ (z : List ℕ). get_or z i 0) e ∙ get_or-table f n i 0 b));
    }
  where
    long : length part ≡ at + n - at
    long = ap length e ∙ (length-table f n ∙ (let q : n ≡ at + n - at = omega arith in q))

    length-mid : (P : ℕ → Type 0) → P (at + n - at) → P n
    length-mid P = subst P (let q : at + n - at ≡ n = omega arith in q)

    there : (k : ℕ) → (k < at → get_or (put_mid at n s part) k 0 ≡ get_or s k 0) × (at ≤ k → k < at + n → get_or (put_mid at n s part) k 0 ≡ get_or part (k - at) 0) × (at + n ≤ k → get_or (put_mid at n s part) k 0 ≡ get_or s k 0)
    there k =
        length-mid
        (λ (m : ℕ). (k < at → get_or (put_mid at m s part) k 0 ≡ get_or s k 0) × (at ≤ k → k < at + n → get_or (put_mid at m s part) k 0 ≡ get_or part (k - at) 0) × (at + n ≤ k → get_or (put_mid at m s part) k 0 ≡ get_or s k 0))
        (get_or-put at (at + n) s part (omega arith) l long k)

-- one value in every word of a part: `&mut s[a..b]`, filled
pub stored-filled : (v a b : ℕ) (s part : List ℕ) → a ≤ b → b ≤ length s → part ≡ table (λ _. v) (length (take (b - a) (drop a s))) → Stored (λ _. v) a (b - a) s (put_mid a (b - a) s part)
stored-filled v a b s part l u e = stored-put (λ _. v) a (b - a) s part (omega arith) (e ∙ ap (table (λ _. v)) (length_part a b s l u))

-- a part lent and filled: `fill(&mut s[a..e], v)`
pub stored-fill : (v a n : ℕ) (s part : List ℕ) → a + n ≤ length s → part ≡ table (λ _. v) (length (take (a + n - a) (drop a s))) → Stored (λ _. v) a n s (put_mid a (a + n - a) s part)
stored-fill v a n s part l e =
    let size : a + n - a ≡ n = omega arith in
    subst (λ (k : ℕ). Stored (λ _. v) a k s (put_mid a (a + n - a) s part)) size (stored-filled v a (a + n) s part (omega arith) l e)

pub stored_same : (f g : ℕ → ℕ) (at n : ℕ) (s t : List ℕ) → ((k : ℕ) → k < n → f k ≡ g k) → Stored f at n s t → Stored g at n s t
stored_same f g at n s t h r = record { within = r.within; each = λ k l. r.each k l ∙ h k l }

-- one of the n words changes
pub stored-set : (f g : ℕ → ℕ) (at n : ℕ) (s t : List ℕ) (i v : ℕ) → at + n ≤ length s → i < n → v ≡ g i → ((k : ℕ) → k < n → (k ≡ i → ⊥) → f k ≡ g k) → Stored f at n s t
    → Stored g at n s (set t (at + i) v)
stored-set f g at n s t i v h m e o r = record { within = within-set r.within (at + i) v (omega arith) (omega arith); each = λ k l. go k l (ℕ_discrete k i) }
  where
    go : (k : ℕ) → k < n → Dec (k ≡ i) → get_or (set t (at + i) v) (at + k) 0 ≡ g k
    go k l (yes z) = ap (λ j. get_or (set t (at + i) v) (at + j) 0) z ∙ (get_or-set_same t (at + i) v 0 (let q = r.within.len in omega arith) ∙ (e ∙ ap g (sym z)))
    go k l (no z) = get_or-set_other t (at + i) (at + k) v 0 (λ y. omega arith) ∙ (r.each k l ∙ o k l z)

-- what is stored, stored again
pub stored-again : {f : ℕ → ℕ} {at n : ℕ} {s t : List ℕ} → Stored f at n s t → Stored f at n t t
stored-again {at = at} {n = n} {t = t} r = record { within = within_none at (at + n) t; each = r.each }

-- stored over what was stored
pub stored-over : {f g : ℕ → ℕ} {at n : ℕ} {s t u : List ℕ} → Stored f at n s t → Stored g at n t u → Stored g at n s u
stored-over r q = record { within = within-trans r.within q.within; each = q.each }
