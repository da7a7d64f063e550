-- The record that nine words hold, and its words changed one by one.
use Rattle.std.specs.Prelude.{List, ℕ, ◌+◌, ◌*◌, ◌/◌, ◌%◌, min, max, get_or, set}
use Rattle.labelling.specs.declared.component.Component.{Component}

-- the record that nine words hold
abbrev pub record_of : List ℕ → Component
record_of s =
    record {
      area = get_or s 0 0;
      x0 = get_or s 1 0;
      y0 = get_or s 2 0;
      x1 = get_or s 3 0;
      y1 = get_or s 4 0;
      sum_x = get_or s 5 0 + get_or s 6 0 * 4294967296;
      sum_y = get_or s 7 0 + get_or s 8 0 * 4294967296;
    }

-- word i, or v where that is less
abbrev pub lowered : List ℕ → ℕ → ℕ → List ℕ
lowered s i v = set s i (min (get_or s i 0) v)

-- word i, or v where that is greater
abbrev pub raised : List ℕ → ℕ → ℕ → List ℕ
raised s i v = set s i (max (get_or s i 0) v)

-- the number whose low word is word i, the next its high word
abbrev pub long_at : List ℕ → ℕ → ℕ
long_at s i = get_or s i 0 + get_or s (i + 1) 0 * 4294967296

-- with so much added
abbrev pub long_added : List ℕ → ℕ → ℕ → List ℕ
long_added s i more = set (set s i ((long_at s i + more) % 4294967296)) (i + 1) ((long_at s i + more) / 4294967296)
