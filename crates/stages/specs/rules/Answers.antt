-- An answer as one word: a refusal is 01's number times 2^32, any other answer its value, which 32 bits hold. Assumes nothing.
use Rattle.std.specs.Prelude.{ℕ, ◌*◌}

-- a refusal; 0 where the number is 0, which is none
abbrev pub refusal_word : ℕ → ℕ
refusal_word number = number * 4294967296
