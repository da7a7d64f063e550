-- Words put over the front of a list: copied in a loop, or stored one by one.
use mathlib.Core.Path.{◌≡◌, refl, ap, ◌∙◌}
use mathlib.Core.List.{List, [], ◌∷◌, ◌++◌}
use Prim.Native.Nat.{ℕ, zero, suc, ◌+◌, ◌≤◌, ◌<◌}
use native.Mathlib.Nat.{not-suc-le-zero, le_of_suc-le-suc}
use native.Mathlib.Numerals.{add-one}
use native.Mathlib.Omega.{arith}
use lib.ListN.{length, get_or, take, drop, set}
use Rattle.memory.specs.rules.Words.{over}

copy-suc : {A : Type 0} (s d : List A) (i : ℕ) (z : A) → i < length s → i < length d → set (take i s ++ drop i d) i (get_or s i z) ≡ take (suc i) s ++ drop (suc i) d
copy-suc [] d i z h k = absurd (not-suc-le-zero h)
copy-suc (x ∷ s) [] i z h k = absurd (not-suc-le-zero k)
copy-suc (x ∷ s) (y ∷ d) zero z h k = refl
copy-suc {A} (x ∷ s) (y ∷ d) (suc i) z h k = ap (λ (t : List A). x ∷ t) (copy-suc s d i z (le_of_suc-le-suc h) (le_of_suc-le-suc k))

-- the first i of s over the front of d, with one more stored
pub copy_step : (s d : List ℕ) (i : ℕ) → i < length s → i < length d → set (take i s ++ drop i d) i (get_or s i 0) ≡ take (i + 1) s ++ drop (i + 1) d
copy_step s d i h k = rw add-one (copy-suc s d i 0 h k)

-- the same of any elements, the one stored named
pub copy_more : {A : Type 0} (s d out : List A) (i : ℕ) (x : A) → i < length s → i < length d → out ≡ take i s ++ drop i d → x ≡ get_or s i x → set out i x ≡ take (i + 1) s ++ drop (i + 1) d
copy_more s d out i x h k e q = rw (e, add-one) (ap (λ y. set (take i s ++ drop i d) i y) q ∙ copy-suc s d i x h k)

-- the words v stored one by one from word k on
abbrev pub stores : List ℕ → ℕ → List ℕ → List ℕ
stores [] k s = s
stores (a ∷ v) k s = stores v (suc k) (set s k a)

stores-behind : (v s : List ℕ) (x k : ℕ) → stores v (suc k) (x ∷ s) ≡ x ∷ stores v k s
stores-behind [] s x k = refl
stores-behind (a ∷ v) s x k = stores-behind v (set s k a) x (suc k)

pub stores-over : (v s : List ℕ) → length v ≤ length s → stores v 0 s ≡ over v s
stores-over [] s l = refl
stores-over (a ∷ v) [] l = absurd (omega arith)
stores-over (a ∷ v) (x ∷ s) l = stores-behind v s a 0 ∙ ap (λ z. a ∷ z) (stores-over v s (omega arith))
