-- A part of words, after others are put over the front or from a place on.
use mathlib.Core.Path.{◌≡◌, refl, sym, ap, ◌∙◌, subst}
use mathlib.Core.List.{List, ◌++◌}
use Prim.Native.Nat.{ℕ, ◌+◌, ◌-◌, ◌≤◌, ◌<◌}
use native.Mathlib.Omega.{arith}
use lib.ListN.{length, get_or, take, drop, length-append, length-drop, take-append-drop}
use lib.Seq.{take-append-le, drop-append-le, take_at, drop_at, drop-drop, length-take-le}
use Rattle.memory.specs.rules.Words.{over, put_at}
use Rattle.memory.proofs.PartLaws as memory
use Rattle.memory.proofs.PartLaws.{get_or-part}
use Rattle.judging.specs.rules.Header.{part}

pub length_part : (a n : ℕ) (s : List ℕ) → a + n ≤ length s → length (part a n s) ≡ n
unfolding part
length_part a n s h = subst (λ k. length (take k (drop a s)) ≡ k) (let q : a + n - a ≡ n = omega arith in q) (memory.length_part a (a + n) s (omega arith) h)

-- word j of a part
pub part-word : (a n : ℕ) (s : List ℕ) (j : ℕ) → j < n → get_or (part a n s) j 0 ≡ get_or s (a + j) 0
unfolding part
part-word a n s j h = get_or-part a n s j h

-- a part of the first words
pub part-append : (a n : ℕ) (x y : List ℕ) → a + n ≤ length x → part a n (x ++ y) ≡ part a n x
unfolding part
part-append a n x y h = ap (take n) (drop-append-le a x y (omega arith)) ∙ take-append-le n (drop a x) y (let e = length-drop a x in omega arith)

-- x over the front of s
pub part-over : (a n : ℕ) (x s : List ℕ) → a + n ≤ length x → part a n (over x s) ≡ part a n x
part-over a n x s h = part-append a n x (drop (length x) s) h

-- the first k words of s
pub part-take : (a n k : ℕ) (s : List ℕ) → a + n ≤ k → k ≤ length s → part a n (take k s) ≡ part a n s
part-take a n k s h l =
    sym (part-append a n (take k s) (drop k s) (let e = length-take-le k s l in omega arith)) ∙ ap (part a n) (take-append-drop k s)

-- a part behind the first words
pub part-behind : (a k n : ℕ) (x y : List ℕ) → length x ≡ a → part (a + k) n (x ++ y) ≡ part k n y
unfolding part
part-behind a k n x y e = ap (take n) (sym (drop-drop k a (x ++ y)) ∙ ap (drop k) (drop_at x y a e))

pub part-seam : (a n : ℕ) (x y : List ℕ) → length x ≡ a → part a n (x ++ y) ≡ part 0 n y
unfolding part
part-seam a n x y e = ap (take n) (drop_at x y a e)

-- a part before the place where v is put
pub part-before : (a n b : ℕ) (v s : List ℕ) → a + n ≤ b → b ≤ length s → part a n (put_at b v s) ≡ part a n s
part-before a n b v s h l =
    part-append a n (take b s) (over v (drop b s)) (let e = length-take-le b s l in omega arith) ∙ part-take a n b s h l

-- the part that is put
pub part-put : (a n : ℕ) (v s : List ℕ) → a ≤ length s → length v ≡ n → part a n (put_at a v s) ≡ v
unfolding part
part-put a n v s h e =
    ap (take n) (drop_at (take a s) (over v (drop a s)) a (length-take-le a s h)) ∙ take_at v (drop (length v) (drop a s)) n e

-- a part behind v
pub part-past : (a n b : ℕ) (v s : List ℕ) → b + length v ≤ a → b ≤ length s → part a n (put_at b v s) ≡ part a n s
unfolding part
part-past a n b v s h l =
    let k = a - (b + length v) in
    let e : a ≡ b + (length v + k) = omega arith in
    ap (take n)
    (ap (λ i. drop i (put_at b v s)) e
    ∙ (sym (drop-drop (length v + k) b (put_at b v s))
    ∙ (ap (drop (length v + k)) (drop_at (take b s) (over v (drop b s)) b (length-take-le b s l))
    ∙ (sym (drop-drop k (length v) (over v (drop b s)))
    ∙ (ap (drop k) (drop_at v (drop (length v) (drop b s)) (length v) refl)
    ∙ (drop-drop k (length v) (drop b s)
    ∙ (drop-drop (length v + k) b s ∙ ap (λ i. drop i s) (sym e))))))))

-- what is put over the front is put from word 0 on
pub over-is-put : (v s : List ℕ) → over v s ≡ put_at 0 v s
over-is-put v s = refl

pub over-past : (a n : ℕ) (v s : List ℕ) → length v ≤ a → part a n (over v s) ≡ part a n s
over-past a n v s h = part-past a n 0 v s (omega arith) (omega arith)

pub length_over : (v s : List ℕ) → length v ≤ length s → length (over v s) ≡ length s
length_over v s h = length-append v (drop (length v) s) ∙ (let e = length-drop (length v) s in omega arith)

pub length-put : (a : ℕ) (v s : List ℕ) → a + length v ≤ length s → length (put_at a v s) ≡ length s
length-put a v s h =
    length-append (take a s) (over v (drop a s))
    ∙ (let e = length-take-le a s (omega arith) in let d = length-drop a s in let f = length_over v (drop a s) (omega arith) in omega arith)
