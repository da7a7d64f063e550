-- An answer as one number: 01's number times 2^32, and the value.
use Rattle.std.specs.Prelude.{ℕ, ◌+◌, ◌*◌, ◌^◌}
use Rattle.store.specs.rules.Outcomes.{Told}

-- the word of a number and a value
abbrev pub word_of : ℕ → ℕ → ℕ
word_of n v = n * 2 ^ 32 + v

-- the word of what is told
abbrev pub told_word : Told → ℕ
told_word t = word_of t.number t.value
