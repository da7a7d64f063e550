-- A part of a slice that is lent and comes back: `&mut s[a..]`, and parts of a table that a loop fills one after the other.
use mathlib.Core.Path.{◌≡◌, sym, ap, ◌∙◌}
use mathlib.Core.List.{List, [], ◌∷◌, ◌++◌, append-nil, append_assoc}
use Prim.Native.Nat.{ℕ, zero, suc, ◌+◌, ◌-◌, ◌≤◌, ◌<◌}
use native.Mathlib.Nat.{add-zero, add-suc}
use native.Mathlib.Omega.{arith}
use lib.ListN.{length, get_or, take, drop, length-take, length-drop, length-append, drop_of_length-le, get_or-append}
use lib.Seq.{take_all, take_at, drop_at, drop-drop, drop-length, ext_get_or, get_or-take, get_or-drop, get_or-append-add, length-take-le}
use borrow.Rule.Slice.PartMut.{put_mid}
use Rattle.memory.specs.rules.Lists.{table}
use Rattle.memory.specs.rules.Words.{over}
use Rattle.memory.proofs.TableLaws.{length-table, get_or-table}

-- ---- `&mut s[a..]`
pub tail-part : (a : ℕ) (s : List ℕ) → take (length s - a) (drop a s) ≡ drop a s
tail-part a s = take_all (length s - a) (drop a s) (let e = length-drop a s in omega arith)

pub tail-put : (a : ℕ) (s v : List ℕ) → put_mid a (length s - a) s v ≡ take a s ++ v
tail-put a s v =
    ap (λ (z : List ℕ). take a s ++ (v ++ z)) (drop_of_length-le (drop a s) {i = length s - a} (let e = length-drop a s in omega arith))
    ∙ ap (λ (z : List ℕ). take a s ++ z) (append-nil v)

-- s over the front, then t over the front of what lies behind s
pub over-behind : (s t words one part : List ℕ) (a : ℕ) → length s ≡ a → one ≡ over s words → part ≡ over t (take (length one - a) (drop a one))
    → put_mid a (length one - a) one part ≡ over (s ++ t) words
over-behind s t words one part a e f g =
    let rest : drop a one ≡ drop (length s) words = ap (drop a) f ∙ drop_at s (drop (length s) words) a e in
    let front : take a one ≡ s = ap (take a) f ∙ take_at s (drop (length s) words) a e in
    tail-put a one part
    ∙ ((λ i. front i ++ (g ∙ ap (over t) (tail-part a one ∙ rest)) i)
    ∙ (ap (λ z. s ++ (t ++ z)) (drop-drop (length t) (length s) words ∙ ap (λ n. drop n words) (sym (length-append s t))) ∙ sym (append_assoc s t _)))

-- a list of the same length over all of another
pub over-all : (v s : List ℕ) → length v ≡ length s → over v s ≡ v
over-all v s e = ap (λ (z : List ℕ). v ++ z) (ap (λ n. drop n s) e ∙ drop-length s) ∙ append-nil v

-- ---- a table in parts
pub part-is-table : (s : List ℕ) (a n d : ℕ) → a + n ≤ length s → take n (drop a s) ≡ table (λ i. get_or s (a + i) d) n
part-is-table s a n d h =
    let l : length (take n (drop a s)) ≡ n = simp (length-take, length-drop) (omega arith) in
    ext_get_or d (take n (drop a s)) (table (λ i. get_or s (a + i) d) n) (l ∙ sym (length-table (λ i. get_or s (a + i) d) n))
    (λ i k. (let q : i < n = omega arith in get_or-take n (drop a s) i d q ∙ (get_or-drop a s i d ∙ sym (get_or-table (λ i. get_or s (a + i) d) n i d q))))

pub table-add : (f : ℕ → ℕ) (m n : ℕ) → table f (m + n) ≡ table f m ++ table (λ i. f (m + i)) n
unfolding table
table-add f m zero = ap (table f) (add-zero m) ∙ sym (append-nil (table f m))
table-add f m (suc n) =
    ap (table f) (add-suc m n)
    ∙ (ap (λ (z : List ℕ). z ++ (f (m + n) ∷ [])) (table-add f m n) ∙ append_assoc (table f m) (table (λ i. f (m + i)) n) (f (m + n) ∷ []))

-- the next n entries are put in as a part
pub part_filled : (f : ℕ → ℕ) (s out v : List ℕ) (a n : ℕ) → out ≡ table f a ++ drop a s → v ≡ table (λ i. f (a + i)) n → put_mid a n out v ≡ table f (a + n) ++ drop (a + n) s
part_filled f s out v a n e q =
    let front : take a out ≡ table f a = ap (take a) e ∙ take_at (table f a) (drop a s) a (length-table f a) in
    let rest : drop a out ≡ drop a s = ap (drop a) e ∙ drop_at (table f a) (drop a s) a (length-table f a) in
    (λ i. front i ++ (q i ++ drop n (rest i)))
    ∙ (ap (λ z. table f a ++ (table (λ i. f (a + i)) n ++ z)) (drop-drop n a s)
    ∙ (sym (append_assoc (table f a) (table (λ i. f (a + i)) n) (drop (a + n) s)) ∙ ap (λ (z : List ℕ). z ++ drop (a + n) s) (sym (table-add f a n))))

-- ---- `&mut s[a..e]`
pub get_or-part : (a k : ℕ) (s : List ℕ) (i : ℕ) → i < k → get_or (take k (drop a s)) i 0 ≡ get_or s (a + i) 0
get_or-part a k s i l = get_or-take k (drop a s) i 0 l ∙ get_or-drop a s i 0

pub length_part : (a e : ℕ) (s : List ℕ) → a ≤ e → e ≤ length s → length (take (e - a) (drop a s)) ≡ e - a
length_part a e s l h = length-take-le (e - a) (drop a s) (let q = length-drop a s in omega arith)

pub length-put : (a e : ℕ) (s t : List ℕ) → a ≤ e → e ≤ length s → length t ≡ e - a → length (put_mid a (e - a) s t) ≡ length s
length-put a e s t l h q =
    length-append (take a s) (t ++ drop (e - a) (drop a s))
    ∙ (let x = length-append t (drop (e - a) (drop a s)) in
    let y = length-drop (e - a) (drop a s) in
    let z = length-drop a s in
    let r = length-take-le a s (let u : a ≤ length s = omega arith in u) in omega arith)

pub get_or-put : (a e : ℕ) (s t : List ℕ) → a ≤ e → e ≤ length s → length t ≡ e - a → (k : ℕ)
    → (k < a → get_or (put_mid a (e - a) s t) k 0 ≡ get_or s k 0) × (a ≤ k → k < e → get_or (put_mid a (e - a) s t) k 0 ≡ get_or t (k - a) 0) × (e ≤ k → get_or (put_mid a (e - a) s t) k 0 ≡ get_or s k 0)
get_or-put a e s t l h q k = (before, inside, after)
  where
    r : length (take a s) ≡ a
    r = length-take-le a s (let u : a ≤ length s = omega arith in u)

    before : k < a → get_or (put_mid a (e - a) s t) k 0 ≡ get_or s k 0
    before b = get_or-append (take a s) (t ++ drop (e - a) (drop a s)) 0 k (omega (arith, r)) ∙ get_or-take a s k 0 b

    past : a ≤ k → get_or (put_mid a (e - a) s t) k 0 ≡ get_or (t ++ drop (e - a) (drop a s)) (k - a) 0
    past b =
        let x : k ≡ length (take a s) + (k - a) = omega (arith, r) in
        ap (λ j. get_or (put_mid a (e - a) s t) j 0) x ∙ get_or-append-add (take a s) (t ++ drop (e - a) (drop a s)) (k - a) 0

    inside : a ≤ k → k < e → get_or (put_mid a (e - a) s t) k 0 ≡ get_or t (k - a) 0
    inside b c = past b ∙ get_or-append t (drop (e - a) (drop a s)) 0 (k - a) (omega arith)

    after : e ≤ k → get_or (put_mid a (e - a) s t) k 0 ≡ get_or s k 0
    after b =
        let x : k - a ≡ length t + (k - e) = omega arith in
        let y : a + (e - a + (k - e)) ≡ k = omega arith in
        past (omega arith)
        ∙ (ap (λ j. get_or (t ++ drop (e - a) (drop a s)) j 0) x
        ∙ (get_or-append-add t (drop (e - a) (drop a s)) (k - e) 0
        ∙ (get_or-drop (e - a) (drop a s) (k - e) 0 ∙ (get_or-drop a s (e - a + (k - e)) 0 ∙ ap (λ j. get_or s j 0) y))))
