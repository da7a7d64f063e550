-- A table over the front of a list, while a loop fills it: one entry stored, or a part of it.
use mathlib.Core.Path.{◌≡◌, refl, sym, ap, ◌∙◌}
use mathlib.Core.List.{List, ◌++◌, append-nil}
use Prim.Native.Nat.{ℕ, ◌+◌, ◌-◌, ◌≤◌, ◌<◌}
use native.Mathlib.Decide.{dec_lt}
use native.Mathlib.Omega.{arith}
use borrow.Author.Tests.{lt-ltb, le-ltb}
use borrow.Rule.Slice.PartMut.{put_mid}
use lib.ListN.{length, get_or, take, drop, set, length-append, length-drop, get_or-append}
use lib.Seq.{take_at, drop_at, take-set-le, drop-set-add, get_or-append-add, get_or-drop, ext_get_or, drop-length}
use Rattle.memory.specs.rules.Lists.{table}
use Rattle.memory.specs.rules.Words.{over}
use Rattle.extents.specs.stages.Scans.{until}
use Rattle.memory.proofs.PartLaws.{length-put, get_or-put}
use Rattle.memory.proofs.TableLaws.{length-table, get_or-table}

pub until-below : (i : ℕ) (f g : ℕ → ℕ) (k : ℕ) → k < i → until i f g k ≡ f k
unfolding until
until-below i f g k l = rw (lt-ltb k i l)

pub until-from : (i : ℕ) (f g : ℕ → ℕ) (k : ℕ) → i ≤ k → until i f g k ≡ g k
unfolding until
until-from i f g k l = rw (le-ltb k i l)

-- two of these that agree but between a and e, where the second has f
pub until-same : (a e : ℕ) (f g : ℕ → ℕ) (k : ℕ) → a ≤ e → (a ≤ k → e ≤ k) → until e f g k ≡ until a f g k
until-same a e f g k l h = go (dec_lt k a)
  where
    go : Dec (k < a) → until e f g k ≡ until a f g k
    go (yes b) = until-below e f g k (omega arith) ∙ sym (until-below a f g k b)
    go (no b) = let c = h (omega arith) in until-from e f g k c ∙ sym (until-from a f g k (omega arith))

pub length_over : (f : ℕ → ℕ) (n : ℕ) (s : List ℕ) → n ≤ length s → length (over (table f n) s) ≡ length s
length_over f n s l =
    length-append (table f n) (drop (length (table f n)) s)
    ∙ (let a = length-table f n in let b = length-drop (length (table f n)) s in omega arith)

pub over-at : (f : ℕ → ℕ) (n : ℕ) (s : List ℕ) (i : ℕ) → i < n → get_or (over (table f n) s) i 0 ≡ f i
over-at f n s i l =
    get_or-append (table f n) (drop (length (table f n)) s) 0 i (let e = length-table f n in omega arith) ∙ get_or-table f n i 0 l

pub over-past : (f : ℕ → ℕ) (n : ℕ) (s : List ℕ) (i : ℕ) → n ≤ i → get_or (over (table f n) s) i 0 ≡ get_or s i 0
over-past f n s i l =
    let q : length (table f n) ≡ n = length-table f n in
    let e : i ≡ length (table f n) + (i - n) = omega arith in
    ap (λ k. get_or (over (table f n) s) k 0) e
    ∙ (get_or-append-add (table f n) (drop (length (table f n)) s) (i - n) 0
    ∙ (get_or-drop (length (table f n)) s (i - n) 0 ∙ ap (λ k. get_or s k 0) (sym e)))

-- a list that agrees with the table below n, and with s from n on
pub over-unique : (f : ℕ → ℕ) (n : ℕ) (s t : List ℕ) → n ≤ length s → length t ≡ length s
    → ((i : ℕ) → i < n → get_or t i 0 ≡ f i) → ((i : ℕ) → n ≤ i → get_or t i 0 ≡ get_or s i 0) → t ≡ over (table f n) s
over-unique f n s t l e h k = ext_get_or 0 t (over (table f n) s) (e ∙ sym (length_over f n s l)) (λ i b. go i (dec_lt i n))
  where
    go : (i : ℕ) → Dec (i < n) → get_or t i 0 ≡ get_or (over (table f n) s) i 0
    go i (yes b) = h i b ∙ sym (over-at f n s i b)
    go i (no b) = k i (omega arith) ∙ sym (over-past f n s i (omega arith))

pub over-ext : (f g : ℕ → ℕ) (n : ℕ) (s : List ℕ) → n ≤ length s → ((i : ℕ) → i < n → f i ≡ g i) → over (table f n) s ≡ over (table g n) s
over-ext f g n s l h = over-unique g n s (over (table f n) s) l (length_over f n s l) (λ i b. over-at f n s i b ∙ h i b) (λ i b. over-past f n s i b)

-- before the first entry is stored
pub over_none : (f : ℕ → ℕ) (n : ℕ) (s : List ℕ) → n ≤ length s → s ≡ over (table (until 0 f (λ k. get_or s k 0)) n) s
over_none f n s l = over-unique _ n s s l refl (λ i b. sym (until-from 0 f (λ k. get_or s k 0) i (omega arith))) (λ i b. refl)

-- after the last
pub over-all : (f g : ℕ → ℕ) (n : ℕ) (s : List ℕ) → n ≤ length s → over (table (until n f g) n) s ≡ over (table f n) s
over-all f g n s l = over-ext (until n f g) f n s l (λ i b. until-below n f g i b)

-- the entries from a up to e are stored
pub over-part : (f g : ℕ → ℕ) (n : ℕ) (s : List ℕ) (a e : ℕ) (t : List ℕ) → n ≤ length s → a ≤ e → e ≤ n → length t ≡ e - a
    → ((k : ℕ) → k < e - a → get_or t k 0 ≡ f (a + k))
    → put_mid a (e - a) (over (table (until a f g) n) s) t ≡ over (table (until e f g) n) s
over-part f g n s a e t l b c q h =
    over-unique (until e f g) n s (put_mid a (e - a) o t) l (length-put a e o t b (omega (arith, z)) q ∙ z) (λ i d. go i d (dec_lt i a) (dec_lt i e))
    (λ i d. (P i).2 (omega arith) ∙ over-past (until a f g) n s i d)
  where
    o : List ℕ
    o = over (table (until a f g) n) s

    z : length o ≡ length s
    z = length_over (until a f g) n s l

    P : (k : ℕ) → (k < a → get_or (put_mid a (e - a) o t) k 0 ≡ get_or o k 0) × (a ≤ k → k < e → get_or (put_mid a (e - a) o t) k 0 ≡ get_or t (k - a) 0) × (e ≤ k → get_or (put_mid a (e - a) o t) k 0 ≡ get_or o k 0)
    P = get_or-put a e o t b (omega (arith, z)) q

    go : (i : ℕ) → i < n → Dec (i < a) → Dec (i < e) → get_or (put_mid a (e - a) o t) i 0 ≡ until e f g i
    go i d (yes x) y = (P i).0 x ∙ (over-at (until a f g) n s i d ∙ sym (until-same a e f g i b (λ w. absurd (omega arith))))
    go i d (no x) (yes y) =
        let u : a + (i - a) ≡ i = omega arith in
        (P i).1 (omega arith) y ∙ (h (i - a) (omega arith) ∙ (ap f u ∙ sym (until-below e f g i y)))
    go i d (no x) (no y) = (P i).2 (omega arith) ∙ (over-at (until a f g) n s i d ∙ sym (until-same a e f g i b (λ w. omega arith)))

-- a table over all of a list
pub over-whole : (f : ℕ → ℕ) (n : ℕ) (s : List ℕ) → n ≡ length s → over (table f n) s ≡ table f n
over-whole f n s e = ap (λ k. table f n ++ drop k s) (length-table f n ∙ e) ∙ (ap (λ r. table f n ++ r) (drop-length s) ∙ append-nil (table f n))

-- the front up to b is lent and comes back
pub front-put : (b : ℕ) (s t : List ℕ) → b ≤ length s → length (put_mid 0 (b - 0) s t) ≡ length s → (take b (put_mid 0 (b - 0) s t) ≡ t) × (drop b (put_mid 0 (b - 0) s t) ≡ drop b s)
front-put b s t l e =
    let z : b - 0 ≡ b = omega arith in
    let q : length t ≡ b = (let x = length-append t (drop (b - 0) s) in let y = length-drop (b - 0) s in omega arith) in
    (take_at t (drop (b - 0) s) b q, drop_at t (drop (b - 0) s) b q ∙ ap (λ k. drop k s) z)

-- and v is added to the entry k behind it
pub front-put-add : (b k v : ℕ) (s t : List ℕ) → b ≤ length s → length (put_mid 0 (b - 0) s t) ≡ length s
    → (take b (set (put_mid 0 (b - 0) s t) (b + k) (get_or (put_mid 0 (b - 0) s t) (b + k) 0 + v)) ≡ t)
    × (drop b (set (put_mid 0 (b - 0) s t) (b + k) (get_or (put_mid 0 (b - 0) s t) (b + k) 0 + v)) ≡ set (drop b s) k (get_or (drop b s) k 0 + v))
front-put-add b k v s t l e =
    let f = front-put b s t l e in
    let x : get_or (put_mid 0 (b - 0) s t) (b + k) 0 ≡ get_or (drop b s) k 0 = sym (get_or-drop b (put_mid 0 (b - 0) s t) k 0) ∙ ap (λ o. get_or o k 0) f.1 in (
      take-set-le b (put_mid 0 (b - 0) s t) (b + k) (get_or (put_mid 0 (b - 0) s t) (b + k) 0 + v) (omega arith) ∙ f.0,
      drop-set-add b (put_mid 0 (b - 0) s t) k (get_or (put_mid 0 (b - 0) s t) (b + k) 0 + v) ∙ (λ j. set (f.1 j) k (x j + v)),
    )
