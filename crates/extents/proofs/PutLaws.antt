-- Entries of a function put into a part of a list, one by one or part by part.
use mathlib.Core.Path.{◌≡◌, refl, sym, ap, ◌∙◌}
use mathlib.Core.List.{List}
use Prim.Native.Nat.{ℕ, ◌+◌, ◌-◌, ◌≤◌, ◌<◌}
use native.Mathlib.Nat.{le_refl}
use native.Mathlib.Decide.{ℕ_discrete, dec_lt}
use native.Mathlib.Omega.{arith}
use borrow.Rule.Slice.PartMut.{put_mid}
use lib.ListN.{length, get_or, take, drop, set, replicate, length-set, length-replicate, get_or-replicate}
use lib.Seq.{get_or-set_same, get_or-set_other}
use Rattle.extents.specs.stages.Bands.{Put}
use Rattle.memory.specs.rules.Lists.{table}
use Rattle.memory.proofs.TableLaws.{length-table, get_or-table, table-ext}
use Rattle.memory.proofs.CountLaws.{list-is-table}
use Rattle.memory.proofs.PartLaws.{length_part, length-put, get_or-put}

-- what stands there already
pub put_same : {f : ℕ → ℕ} (a b : ℕ) (s : List ℕ) → ((k : ℕ) → a ≤ k → k < b → get_or s k 0 ≡ f k) → Put f a b s s
put_same a b s h = record { size = refl; put = h; lower = λ k l. refl; upper = λ k l. refl }

pub put-none : {f : ℕ → ℕ} (a : ℕ) (s : List ℕ) → Put f a a s s
put-none a s = put_same a a s (λ k l u. absurd (omega arith))

pub put_as : {f g : ℕ → ℕ} {a b : ℕ} {s e : List ℕ} → Put f a b s e → ((k : ℕ) → a ≤ k → k < b → f k ≡ g k) → Put g a b s e
put_as P h = record { size = P.size; put = λ k l u. P.put k l u ∙ h k l u; lower = P.lower; upper = P.upper }

-- by other names of its ends
pub put-ends : {f : ℕ → ℕ} {a b c d : ℕ} {s e : List ℕ} → Put f a b s e → a ≡ c → b ≡ d → Put f c d s e
put-ends P p q =
    record {
      size = P.size;
      put = λ k l u. P.put k (omega arith) (omega arith);
      lower = λ k l. P.lower k (omega arith);
      upper = λ k l. P.upper k (omega arith);
    }

-- the next entry, going up
pub put_up : {f : ℕ → ℕ} {a i : ℕ} {s e : List ℕ} (v : ℕ) → Put f a i s e → a ≤ i → i < length s → v ≡ f i → Put f a (i + 1) s (set e i v)
put_up {f} {a} {i} {s} {e} v P l u q =
    record {
      size = length-set e i v ∙ P.size;
      put = λ k b c. go k b c (ℕ_discrete k i);
      lower = λ k b. get_or-set_other e i k v 0 (λ d. omega arith) ∙ P.lower k b;
      upper = λ k b. get_or-set_other e i k v 0 (λ d. omega arith) ∙ P.upper k (omega arith);
    }
  where
    go : (k : ℕ) → a ≤ k → k < i + 1 → Dec (k ≡ i) → get_or (set e i v) k 0 ≡ f k
    go k b c (yes d) = ap (λ j. get_or (set e i v) j 0) d ∙ (get_or-set_same e i v 0 (let z = P.size in omega arith) ∙ (q ∙ ap f (sym d)))
    go k b c (no d) = get_or-set_other e i k v 0 d ∙ P.put k b (omega arith)

-- and going down
pub put-down : {f : ℕ → ℕ} {b i : ℕ} {s e : List ℕ} (v : ℕ) → Put f i b s e → 0 < i → i ≤ b → i ≤ length s → v ≡ f (i - 1) → Put f (i - 1) b s (set e (i - 1) v)
put-down {f} {b} {i} {s} {e} v P o l u q =
    record {
      size = length-set e (i - 1) v ∙ P.size;
      put = λ k b c. go k b c (ℕ_discrete k (i - 1));
      lower = λ k b. get_or-set_other e (i - 1) k v 0 (λ d. omega arith) ∙ P.lower k (omega arith);
      upper = λ k b. get_or-set_other e (i - 1) k v 0 (λ d. omega arith) ∙ P.upper k b;
    }
  where
    go : (k : ℕ) → i - 1 ≤ k → k < b → Dec (k ≡ i - 1) → get_or (set e (i - 1) v) k 0 ≡ f k
    go k x c (yes d) = ap (λ j. get_or (set e (i - 1) v) j 0) d ∙ (get_or-set_same e (i - 1) v 0 (let z = P.size in omega arith) ∙ (q ∙ ap f (sym d)))
    go k x c (no d) = get_or-set_other e (i - 1) k v 0 d ∙ P.put k (omega arith) c

-- the next part, going up; it may lie partly over the one before it
pub put-over : {f : ℕ → ℕ} {a b c i : ℕ} {s e t : List ℕ} → Put f a i s e → Put f b c e t → a ≤ b → b ≤ i → i ≤ c → Put f a c s t
put-over {f} {a} {b} {c} {i} {s} {e} {t} P Q l m u =
    record {
      size = Q.size ∙ P.size;
      put = λ k x y. go k x y (dec_lt k b);
      lower = λ k x. Q.lower k (omega arith) ∙ P.lower k x;
      upper = λ k x. Q.upper k x ∙ P.upper k (omega arith);
    }
  where
    go : (k : ℕ) → a ≤ k → k < c → Dec (k < b) → get_or t k 0 ≡ f k
    go k x y (yes d) = Q.lower k d ∙ P.put k x (omega arith)
    go k x y (no d) = Q.put k (omega arith) y

pub put-more : {f : ℕ → ℕ} {a b c : ℕ} {s e t : List ℕ} → Put f a b s e → Put f b c e t → a ≤ b → b ≤ c → Put f a c s t
put-more P Q l u = put-over P Q l (le_refl _) u

-- and going down
pub put-more-down : {f : ℕ → ℕ} {a b c : ℕ} {s e t : List ℕ} → Put f b c s e → Put f a b e t → a ≤ b → b ≤ c → Put f a c s t
put-more-down {f} {a} {b} {c} {s} {e} {t} P Q l u =
    record {
      size = Q.size ∙ P.size;
      put = λ k x y. go k x y (dec_lt k b);
      lower = λ k x. Q.lower k x ∙ P.lower k (omega arith);
      upper = λ k x. Q.upper k (omega arith) ∙ P.upper k x;
    }
  where
    go : (k : ℕ) → a ≤ k → k < c → Dec (k < b) → get_or t k 0 ≡ f k
    go k x y (yes d) = Q.put k x d
    go k x y (no d) = Q.upper k (omega arith) ∙ P.put k (omega arith) y

-- one number throughout, as a table
pub filled : (n v : ℕ) → replicate n v ≡ table (λ _. v) n
filled n v = list-is-table (replicate n v) ∙ (ap (table (λ k. get_or (replicate n v) k 0)) (length-replicate n v) ∙ table-ext (λ k. get_or (replicate n v) k 0) (λ _. v) n (λ k u. get_or-replicate n k v 0 u))

-- one value in every entry of a part
pub put-filled : {f : ℕ → ℕ} (a b v : ℕ) (s t : List ℕ) → a ≤ b → b ≤ length s → t ≡ replicate (length (take (b - a) (drop a s))) v
    → ((k : ℕ) → a ≤ k → k < b → f k ≡ v) → Put f a b s (put_mid a (b - a) s t)
put-filled a b v s t l u q h =
    let r : t ≡ table (λ _. v) (b - a) = q ∙ (filled _ v ∙ ap (table (λ _. v)) (length_part a b s l u)) in
    let z : length t ≡ b - a = ap length r ∙ length-table (λ _. v) (b - a) in
    record {
      size = length-put a b s t l u z;
      put = λ k c d. (get_or-put a b s t l u z k).1 c d ∙ (ap (λ o. get_or o (k - a) 0) r ∙ (get_or-table (λ _. v) (b - a) (k - a) 0 (omega arith) ∙ sym (h k c d)));
      lower = λ k c. (get_or-put a b s t l u z k).0 c;
      upper = λ k c. (get_or-put a b s t l u z k).2 c;
    }
