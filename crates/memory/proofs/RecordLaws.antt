-- Records as runs of k words each: one more record stored, and a record read back.
use Prim.Native.Nat.{ℕ, zero, suc, ◌+◌, ◌*◌, ◌≤◌, ◌<◌}
use mathlib.Core.Path.{◌≡◌, sym, ap, ◌∙◌}
use mathlib.Core.List.{List, [], ◌∷◌, ◌++◌, append_assoc, append-nil}
use native.Mathlib.Omega.{arith}
use native.Mathlib.Nat.{not-suc-le-zero, le_of_suc-le-suc, suc-mul}
use lib.ListN.{length, get_or, drop, length-append, length-drop, get_or-append}
use lib.Seq.{sets, sets-eq, take-append_seam, drop-append-add, drop-drop, get_or-append-add}
use Rattle.memory.specs.rules.Words.{over}
use Rattle.memory.specs.rules.Records.{encoded}

module _ {A : Type 0} (words : A → List ℕ) (k : ℕ) (each : (a : A) → length (words a) ≡ k) where
  pub length-encoded : (l : List A) → length (encoded words l) ≡ length l * k
  unfolding encoded
  length-encoded [] = omega arith
  length-encoded (a ∷ l) =
      length-append (words a) (encoded words l) ∙ (let e = each a in let f = length-encoded l in let g = suc-mul (length l) k in omega arith)

  encoded-snoc : (l : List A) (a : A) → encoded words (l ++ (a ∷ [])) ≡ encoded words l ++ words a
  unfolding encoded
  encoded-snoc [] a = append-nil (words a)
  encoded-snoc (b ∷ l) a = ap (λ (t : List ℕ). words b ++ t) (encoded-snoc l a) ∙ sym (append_assoc (words b) (encoded words l) (words a))

  -- one more record stored after those that are there
  pub record-more : (l : List A) (a : A) (s : List ℕ) (at : ℕ) → at ≡ length (encoded words l) → at + k ≤ length s
      → sets (over (encoded words l) s) at (words a) ≡ over (encoded words (l ++ (a ∷ []))) s
  record-more l a s at e h =
      let t = encoded words l in
      let n : length (t ++ words a) ≡ length t + k = length-append t (words a) ∙ ap (λ (z : ℕ). length t + z) (each a) in
      let m : length (over t s) ≡ length s = simp (length-append, length-drop) (omega arith) in
      let q : length (words a) ≡ k = each a in
      rw (encoded-snoc l a, n, e)
      (sets-eq (words a) (over t s) (length t) (omega arith)
      ∙ rw (q, take-append_seam t (drop (length t) s), drop-append-add t (drop (length t) s) k, drop-drop k (length t) s))

  -- word j of the record at i
  pub record-at : (l : List A) (rest : List ℕ) (i j : ℕ) (d : A) → i < length l → j < k
      → get_or (encoded words l ++ rest) (i * k + j) 0 ≡ get_or (words (get_or l i d)) j 0
  unfolding encoded
  record-at [] rest i j d h b = absurd (not-suc-le-zero h)
  record-at (a ∷ l) rest zero j d h b =
      let q : length (words a) ≡ k = each a in
      rw (append_assoc (words a) (encoded words l) rest)
      (let z : 0 * k + j ≡ j = omega arith in rw z (get_or-append (words a) (encoded words l ++ rest) 0 j (omega arith)))
  record-at (a ∷ l) rest (suc i) j d h b =
      let q : length (words a) ≡ k = each a in
      let z : suc i * k + j ≡ length (words a) + (i * k + j) = (let g = suc-mul i k in omega arith) in
      rw (append_assoc (words a) (encoded words l) rest, z, get_or-append-add (words a) (encoded words l ++ rest))
      (record-at l rest i j d (le_of_suc-le-suc h) b)
