-- Texts one after the other, and what is written of them.
use mathlib.Core.Path.{◌≡◌, refl, sym, ap, ◌∙◌}
use mathlib.Core.List.{List, [], ◌∷◌, ◌++◌, append_assoc}
use Prim.Native.Nat.{ℕ, zero, suc, ◌+◌, ◌*◌, ◌≤◌, ◌<◌}
use native.Mathlib.Nat.{not-suc-le-zero, suc-mul}
use native.Mathlib.Numerals.{add-one}
use native.Mathlib.Decide.{ℕ_discrete}
use native.Mathlib.Omega.{arith}
use lib.ListN.{length, take, drop, set, length-append, take-append-drop}
use lib.Seq.{take_at, drop_at, drop-drop, set_split, length-take-le}
use Rattle.memory.specs.rules.Words.{over, put_at}
use Rattle.judging.proofs.PartLaws.{length-put}
use Rattle.listing.specs.rules.Digits.{joined}
use Rattle.listing.specs.stages.Puts.{Put}

-- ---- what is written
put-bytes : (s out out' a b : List ℕ) (at : ℕ) → at + length a + length b ≤ length s → out ≡ put_at at a s → out' ≡ put_at (at + length a) b out → out' ≡ put_at at (a ++ b) s
put-bytes s out out' a b at room e f =
    let r = drop (length a) (drop at s) in
    let front : length (take at s ++ a) ≡ at + length a = length-append (take at s) a ∙ ap (λ n. n + length a) (length-take-le at s (omega arith)) in
    let shape : out ≡ take at s ++ a ++ r = e ∙ sym (append_assoc (take at s) a r) in
    let head : take (at + length a) out ≡ take at s ++ a = ap (take (at + length a)) shape ∙ take_at (take at s ++ a) r (at + length a) front in
    let rest : drop (at + length a) out ≡ r = ap (drop (at + length a)) shape ∙ drop_at (take at s ++ a) r (at + length a) front in
    let past : drop (length b) r ≡ drop (length (a ++ b)) (drop at s) = drop-drop (length b) (length a) (drop at s) ∙ ap (λ n. drop n (drop at s)) (sym (length-append a b)) in
    f
    ∙ ((λ i. head i ++ over b (rest i))
    ∙ (append_assoc (take at s) a (over b r)
    ∙ ap (λ z. take at s ++ z) (sym (append_assoc a b (drop (length b) r)) ∙ ap (λ z. a ++ b ++ z) past)))

-- one text behind another
pub put-more : (s out out' a b : List ℕ) (at p q : ℕ) → at + length a + length b ≤ length s → Put s at a p out → Put out p b q out' → Put s at (a ++ b) q out'
put-more s out out' a b at p q room x y =
    let e = x.place in
    let n = y.place in
    let l = length-append a b in
    record {
      place = omega arith;
      bytes = put-bytes s out out' a b at room x.bytes (y.bytes ∙ ap (λ z. put_at z b out) e);
    }

-- nothing is written yet
pub put-none : (s : List ℕ) (at : ℕ) → Put s at [] at s
put-none s at = record { place = let e : at ≡ at + 0 = omega arith in e; bytes = sym (take-append-drop at s) }

-- one byte is stored
pub put_byte : (s : List ℕ) (at b : ℕ) → at < length s → Put s at (b ∷ []) (at + 1) (set s at b)
put_byte s at b h =
    record {
      place = refl;
      bytes = set_split s at b h ∙ ap (λ z. take at s ++ (b ∷ z)) (sym (drop-drop 1 at s ∙ ap (λ n. drop n s) (add-one at)));
    }

pub put-length : (s out t : List ℕ) (at p : ℕ) → at + length t ≤ length s → Put s at t p out → length out ≡ length s
put-length s out t at p h x = ap length x.bytes ∙ length-put at t s h

-- three texts, one behind the other
module _ (s a b c : List ℕ) (at : ℕ) (room : at + length (a ++ b ++ c) ≤ length s) where
  three-lengths : length (a ++ b ++ c) ≡ length a + length b + length c
  three-lengths = length-append (a ++ b) c ∙ ap (λ n. n + length c) (length-append a b)

  pub three-room : at + length a ≤ length s
  three-room = let l = three-lengths in omega arith

  pub three-room-2 : (one : List ℕ) (p : ℕ) → Put s at a p one → p + length b ≤ length one
  three-room-2 one p x = let l = three-lengths in let e = x.place in let k : length one ≡ length s = put-length s one a at p (omega arith) x in omega arith

  two : (one t : List ℕ) (p q : ℕ) → Put s at a p one → Put one p b q t → Put s at (a ++ b) q t
  two one t p q x y = let l = three-lengths in put-more s one t a b at p q (omega arith) x y

  pub three-room-3 : (one t : List ℕ) (p q : ℕ) → Put s at a p one → Put one p b q t → q + length c ≤ length t
  three-room-3 one t p q x y =
      let l = three-lengths in
      let m = length-append a b in
      let z = two one t p q x y in
      let e = z.place in
      let k : length t ≡ length s = put-length s t (a ++ b) at q (omega arith) z in
      omega arith

  pub three-put : (one t u : List ℕ) (p q r : ℕ) → Put s at a p one → Put one p b q t → Put t q c r u → Put s at (a ++ b ++ c) r u
  three-put one t u p q r x y z = let l = three-lengths in let m = length-append a b in put-more s t u (a ++ b) c at q r (omega arith) (two one t p q x y) z

-- ---- texts one after the other
pub length-joined-suc : (f : ℕ → List ℕ) (n : ℕ) → length (joined f (suc n)) ≡ length (joined f n) + length (f n)
unfolding joined
length-joined-suc f n = length-append (joined f n) (f n)

-- a text among the first n ends where they do, or before
pub joined-part : (f : ℕ → List ℕ) (n j : ℕ) → j < n → length (joined f j) + length (f j) ≤ length (joined f n)
joined-part f zero j h = absurd (not-suc-le-zero h)
joined-part f (suc n) j h = go (joined-part f n j) (ℕ_discrete j n)
  where
    go : (j < n → length (joined f j) + length (f j) ≤ length (joined f n)) → Dec (j ≡ n) → length (joined f j) + length (f j) ≤ length (joined f (suc n))
    go ih (yes e) = let l = length-joined-suc f n in let a = ap (λ z. length (joined f z)) e in let b = ap (λ z. length (f z)) e in omega arith
    go ih (no ne) = let l = length-joined-suc f n in let i = ih (omega arith) in omega arith

-- texts of one length
pub length-joined : (f : ℕ → List ℕ) (k n : ℕ) → ((i : ℕ) → length (f i) ≡ k) → length (joined f n) ≡ n * k
unfolding joined
length-joined f k zero h = omega arith
length-joined f k (suc n) h = let l = length-joined-suc f n in let i = length-joined f k n h in let e = h n in let m : suc n * k ≡ n * k + k = suc-mul n k in omega arith

-- one more of them is written
pub joined-more : (f : ℕ → List ℕ) (s out out' : List ℕ) (at n j p q : ℕ) → j < n → at + length (joined f n) ≤ length s
    → Put s at (joined f j) p out → Put out p (f j) q out' → Put s at (joined f (j + 1)) q out'
unfolding joined
joined-more f s out out' at n j p q l room x y =
    let part = joined-part f n j l in
    rw (add-one j) (put-more s out out' (joined f j) (f j) at p q (omega arith) x y)

-- there is room for it
pub joined-room : (f : ℕ → List ℕ) (s out : List ℕ) (at n j p : ℕ) → j < n → at + length (joined f n) ≤ length s → Put s at (joined f j) p out
    → p + length (f j) ≤ length out
joined-room f s out at n j p l room x =
    let part = joined-part f n j l in
    let e = x.place in
    let k : length out ≡ length s = put-length s out (joined f j) at p (omega arith) x in
    omega arith
