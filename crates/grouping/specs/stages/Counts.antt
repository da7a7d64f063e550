-- Tables of counts: how often each value occurs in a list.
use Rattle.std.specs.Prelude.{cond, List, [], ◌∷◌, ltb, ℕ}
use Rattle.memory.specs.rules.Lists.{table, occurs}

-- how often each of the values below m occurs
abbrev pub counts : List ℕ → ℕ → List ℕ
counts l m = table (λ v. occurs v l) m

-- v alone where it is below m, else none
abbrev pub below : ℕ → ℕ → List ℕ
below m v = cond (ltb v m) (v ∷ []) []
