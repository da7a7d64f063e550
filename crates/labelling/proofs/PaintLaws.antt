-- Labels painted run by run.
use Rattle.std.proofs.Common.{replicate}
use Rattle.std.proofs.lemmas.List.{replicate_more}
use mathlib.Core.Path.{◌≡◌, refl, sym, ap, ◌∙◌, subst}
use mathlib.Core.List.{List, [], ◌∷◌, ◌++◌}
use Prim.Native.Nat.{ℕ, zero, suc, ◌+◌, ◌-◌, ◌*◌, ◌≤◌, ◌<◌}
use native.Mathlib.Nat.{le_refl}
use native.Mathlib.Numerals.{add-one}
use native.Mathlib.Decide.{ℕ_discrete, dec_lt}
use native.Mathlib.Omega.{arith}
use borrow.Rule.Slice.PartMut.{put_mid}
use lib.ListN.{get_or, length, set, take, drop, length-set, length-append, length-drop, get_or-append}
use lib.Seq.{length-take-le, take_at, get_or-take, get_or-drop, get_or-set_same, get_or-append-add, ext_get_or}
use Rattle.memory.specs.rules.Lists.{table}
use Rattle.memory.proofs.TableLaws.{length-table, get_or-table}
use Rattle.memory.specs.stages.Stored.{Stored}
use Rattle.memory.proofs.StoredLaws.{within_none, within-trans, within_wider, within-set, stored_at, stored-filled}
use Rattle.labelling.specs.stages.InkRuns.{start_of, end_of}
use Rattle.labelling.specs.stages.Painting.{Front, numbered, Paintable, OnRuns, OffRuns, Painted, PaintSweep}

-- what `fill` leaves
pub filled : (v n : ℕ) → replicate n v ≡ table (λ _. v) n
unfolding table
filled v zero = refl
filled v (suc n) = ap (λ z. replicate z v) (sym (add-one n)) ∙ (sym (replicate_more n v) ∙ ap (λ z. z ++ (v ∷ [])) (filled v n))

-- Turns and numbers that stand apart

module _ (c : ℕ) (t numbers : List ℕ) (ht : 2 * c ≤ length t) where
  front_long : length (take (2 * c) t) ≡ 2 * c
  front_long = length-take-le (2 * c) t ht

  pub numbered-turn : (i : ℕ) → i < 2 * c → get_or (numbered c t numbers) i 0 ≡ get_or t i 0
  numbered-turn i l = get_or-append (take (2 * c) t) numbers 0 i (let e = front_long in omega arith) ∙ get_or-take (2 * c) t i 0 l

  pub numbered-number : (k : ℕ) → get_or (numbered c t numbers) (2 * c + k) 0 ≡ get_or numbers k 0
  numbered-number k = ap (λ z. get_or (numbered c t numbers) (z + k) 0) (sym front_long) ∙ get_or-append-add (take (2 * c) t) numbers k 0

  pub numbered-length : length (numbered c t numbers) ≡ 2 * c + length numbers
  numbered-length = length-append (take (2 * c) t) numbers ∙ ap (λ z. z + length numbers) front_long

  pub numbered-turns : take (2 * c) (numbered c t numbers) ≡ take (2 * c) t
  numbered-turns = take_at (take (2 * c) t) numbers (2 * c) front_long

-- A first label, and then the others

pub stored-first : (v from to : ℕ) (l part : List ℕ) → from < to → to ≤ length l → part ≡ table (λ _. v) (length (take (to - (from + 1)) (drop (from + 1) (set l from v))))
    → Stored (λ _. v) from (to - from) l (put_mid (from + 1) (to - (from + 1)) (set l from v) part)
stored-first v from to l part q h e =
    record {
      within = within-trans (within-set (within_none from (from + (to - from)) l) from v (le_refl from) (omega arith)) (within_wider X.within (omega arith) (omega arith));
      each = λ i b. at i b (ℕ_discrete i 0);
    }
  where
    X : Stored (λ _. v) (from + 1) (to - (from + 1)) (set l from v) (put_mid (from + 1) (to - (from + 1)) (set l from v) part)
    X = stored-filled v (from + 1) to (set l from v) part (omega arith) (simp length-set (omega arith)) e

    at : (i : ℕ) → i < to - from → Dec (i ≡ 0) → get_or (put_mid (from + 1) (to - (from + 1)) (set l from v) part) (from + i) 0 ≡ v
    at i b (yes z) =
        let w : from + i ≡ from = omega arith in
        X.within.before (from + i) (omega arith) ∙ (ap (λ j. get_or (set l from v) j 0) w ∙ get_or-set_same l from v 0 (omega arith))
    at i b (no z) = stored_at X (from + i) (omega arith) (omega arith)

-- A front by its entries

pub front_of : (f : ℕ → ℕ) (l₀ l : List ℕ) (n : ℕ) → length l ≡ length l₀ → n ≤ length l₀ → ((i : ℕ) → i < n → get_or l i 0 ≡ f i) → ((i : ℕ) → n ≤ i → get_or l i 0 ≡ get_or l₀ i 0) → Front f l₀ l n
front_of f l₀ l n e h a b =
    let t = length-table f n in
    let d = length-drop n l₀ in
    let p = length-append (table f n) (drop n l₀) in
    ext_get_or 0 l (table f n ++ drop n l₀) (omega arith) (λ i q. at i (dec_lt i n))
  where
    at : (i : ℕ) → Dec (i < n) → get_or l i 0 ≡ get_or (table f n ++ drop n l₀) i 0
    at i (yes q) = a i q ∙ sym (get_or-append (table f n) (drop n l₀) 0 i (let t = length-table f n in omega arith) ∙ get_or-table f n i 0 q)
    at i (no q) =
        let t = length-table f n in
        let z : i ≡ length (table f n) + (i - n) = omega arith in
        let y : n + (i - n) ≡ i = omega arith in
        b i (omega arith) ∙ sym (ap (λ x. get_or (table f n ++ drop n l₀) x 0) z ∙ (get_or-append-add (table f n) (drop n l₀) (i - n) 0 ∙ (get_or-drop n l₀ (i - n) 0 ∙ ap (λ x. get_or l₀ x 0) y)))

-- Painting

pub paint-none : {s : List ℕ} {c : ℕ} {l : List ℕ} {n : ℕ} → Paintable s c l n → PaintSweep s c l l n 0 0
paint-none A =
    record {
      asks = A;
      len = refl;
      upto = omega arith;
      inside = omega arith;
      done = 0;
      reach = le_refl 0;
      next = λ _. omega arith;
      last = λ j e. absurd (omega arith);
      painted = λ f on off i q. absurd (omega arith);
      blank = λ i a b. absurd (omega arith);
      past = λ i a. refl;
    }

module _ {s : List ℕ} {c : ℕ} {l₀ l : List ℕ} {n k clear : ℕ} (S : PaintSweep s c l₀ l n k clear) where
  -- cleared further
  pub paint-clear : (l' : List ℕ) (to : ℕ) → clear ≤ to → to ≤ n → Stored (λ _. 0) clear (to - clear) l l' → PaintSweep s c l₀ l' n k to
  paint-clear l' to q h X =
      let r = S.reach in
      record {
        asks = S.asks;
        len = X.within.len ∙ S.len;
        upto = S.upto;
        inside = h;
        done = S.done;
        reach = omega arith;
        next = S.next;
        last = S.last;
        painted = λ f on off i a. X.within.before i (omega arith) ∙ S.painted f on off i a;
        blank = λ i a b. zero-at i a b (dec_lt i clear);
        past = λ i a. X.within.past i (omega arith) ∙ S.past i (omega arith);
      }
    where
      zero-at : (i : ℕ) → S.done ≤ i → i < to → Dec (i < clear) → get_or l' i 0 ≡ 0
      zero-at i a b (yes y) = X.within.before i y ∙ S.blank i a y
      zero-at i a b (no y) = stored_at X i (omega arith) (omega arith)

  module _ (lk : k < c) (start end : ℕ) (es : start ≡ get_or s (2 * k) 0) (ee : end ≡ get_or s (2 * k + 1) 0) where
    at-start : start ≡ start_of (take (2 * c) s) k
    at-start = es ∙ sym (get_or-take (2 * c) s (2 * k) 0 (omega arith))

    at-end : end ≡ end_of (take (2 * c) s) 0 k
    at-end = ee ∙ sym (get_or-take (2 * c) s (2 * k + 1) 0 (omega arith))

    has-dots : start < end
    has-dots = let b = at-start in let d = at-end in let o = S.asks.order.some k lk in omega arith

    pub paint-more : end ≤ clear → (l' : List ℕ) → Stored (λ _. get_or s (2 * c + k) 0) start (end - start) l l' → PaintSweep s c l₀ l' n (k + 1) clear
    paint-more reached l' X =
        let b = at-start in
        let d = at-end in
        let p = has-dots in
        let g = S.next lk in
        record {
          asks = S.asks;
          len = X.within.len ∙ S.len;
          upto = omega arith;
          inside = S.inside;
          done = end;
          reach = reached;
          next = λ h. subst (λ z. end ≤ start_of (take (2 * c) s) z) (sym (add-one k)) (let r = S.asks.order.rising k (suc k) (le_refl (suc k)) (omega arith) in omega arith);
          last = λ j e. ap (end_of (take (2 * c) s) 0) (let z : j ≡ k = omega arith in z) ∙ sym d;
          painted = λ f on off i q. label-at f on off i q (dec_lt i start) (dec_lt i S.done);
          blank = λ i q h. X.within.past i (omega arith) ∙ S.blank i (omega arith) h;
          past = λ i q. X.within.past i (omega arith) ∙ S.past i q;
        }
      where
        label-at : (f : ℕ → ℕ) → OnRuns s c f → OffRuns s c n f → (i : ℕ) → i < end → Dec (i < start) → Dec (i < S.done) → get_or l' i 0 ≡ f i
        label-at f on off i q (no y) z = let b = at-start in let d = at-end in stored_at X i (omega arith) (omega arith) ∙ sym (on k i lk (omega arith) (omega arith))
        label-at f on off i q (yes y) (yes z) = X.within.before i y ∙ S.painted f on off i z
        label-at f on off i q (yes y) (no z) =
            let b = at-start in
            let w = S.inside in
            X.within.before i y ∙ (S.blank i (omega arith) (omega arith) ∙ sym (off k i S.upto (omega arith) (λ _. omega arith) (λ j e. let v = S.last j e in omega arith)))

  pub paint-done : c ≤ k → clear ≡ n → Painted s c l₀ l n
  paint-done h e =
      record {
        len = S.len;
        painted = λ f on off. front_of f l₀ l n S.len S.asks.labels (λ i q. at f on off i q (dec_lt i S.done)) (λ i q. S.past i (omega arith));
      }
    where
      at : (f : ℕ → ℕ) → OnRuns s c f → OffRuns s c n f → (i : ℕ) → i < n → Dec (i < S.done) → get_or l i 0 ≡ f i
      at f on off i q (yes y) = S.painted f on off i y
      at f on off i q (no y) = S.blank i (omega arith) (omega arith) ∙ sym (off k i S.upto q (λ z. absurd (omega arith)) (λ j x. let v = S.last j x in omega arith))
