-- Records as runs of words (01, "Records lie in lent words"): `words` gives a record's words, as many for each record.
use Rattle.std.specs.Prelude.{ℕ, ◌+◌, ◌*◌, List, [], ◌∷◌, ◌++◌, get_or}
use Rattle.memory.specs.rules.Lists.{table}

-- the words of the records, one record after the other
unfoldable pub encoded : {A : Type 0} → (A → List ℕ) → List A → List ℕ
encoded words [] = []
encoded words (a ∷ l) = words a ++ encoded words l

-- word j of each of n records of k words
abbrev pub fields : ℕ → ℕ → List ℕ → ℕ → List ℕ
fields k j s n = table (λ i. get_or s (i * k + j) 0) n
