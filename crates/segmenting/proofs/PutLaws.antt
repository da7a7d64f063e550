-- Lists put in their places, one behind the other, in the words lent for results.
use mathlib.Core.Path.{◌≡◌, sym, ap, ◌∙◌}
use mathlib.Core.List.{List, ◌++◌, append_assoc}
use Prim.Native.Nat.{ℕ, ◌+◌, ◌-◌, ◌≤◌}
use native.Mathlib.Omega.{arith}
use lib.ListN.{length, take, drop, length-append, length-take, length-drop}
use lib.Seq.{take_at, drop_at, drop-drop, take-add, take-append_seam, drop-append_seam, length-take-le}
use borrow.Rule.Slice.PartMut.{put_mid}
use Rattle.memory.specs.rules.Words.{over, put_at}
use Rattle.memory.proofs.PartLaws.{tail-part, tail-put}

-- the part from `a` on
pub part_length : (a : ℕ) (s : List ℕ) → length (take (length s - a) (drop a s)) ≡ length s - a
part_length a s = ap length (tail-part a s) ∙ length-drop a s

-- v over the front of the part from `a` on
pub put-part : (a : ℕ) (s v part : List ℕ) → part ≡ over v (take (length s - a) (drop a s)) → put_mid a (length s - a) s part ≡ put_at a v s
put-part a s v part e = tail-put a s part ∙ ap (λ (z : List ℕ). take a s ++ z) (e ∙ ap (over v) (tail-part a s))

pub put-long : (a : ℕ) (v s : List ℕ) → a + length v ≤ length s → length (put_at a v s) ≡ length s
put-long a v s l = simp (length-append, length-take, length-drop) (omega arith)

-- what lies before a place at or past `a` stays, and the rest is put in the rest
pub put-split : (a k : ℕ) (v s : List ℕ) → put_at (a + k) v s ≡ take a s ++ put_at k v (drop a s)
put-split a k v s =
    (λ i. take-add a k s i ++ over v (sym (drop-drop k a s) i)) ∙ append_assoc (take a s) (take k (drop a s)) (over v (drop k (drop a s)))

pub put-before : (a k : ℕ) (v s : List ℕ) → a ≤ length s → take a (put_at (a + k) v s) ≡ take a s
put-before a k v s l = ap (take a) (put-split a k v s) ∙ take_at (take a s) (put_at k v (drop a s)) a (length-take-le a s l)

pub put-behind : (a k : ℕ) (v s : List ℕ) → a ≤ length s → drop a (put_at (a + k) v s) ≡ put_at k v (drop a s)
put-behind a k v s l = ap (drop a) (put-split a k v s) ∙ drop_at (take a s) (put_at k v (drop a s)) a (length-take-le a s l)

-- a list over the front, and one put behind it: in either order
pub over-put : (u v s : List ℕ) (k : ℕ) → length u ≤ k → length u ≤ length s → put_at k v (over u s) ≡ over u (put_at k v s)
over-put u v s k l b =
    let e : k ≡ length u + (k - length u) = omega arith in
    let d = drop (length u) s in
    ap (λ n. put_at n v (over u s)) e
    ∙ (put-split (length u) (k - length u) v (over u s)
    ∙ ((λ i. take-append_seam u d i ++ put_at (k - length u) v (drop-append_seam u d i))
    ∙ sym (ap (λ n. over u (put_at n v s)) e ∙ ap (λ (z : List ℕ). u ++ z) (put-behind (length u) (k - length u) v s b))))
