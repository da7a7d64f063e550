-- A dot of a mask (01, part 2) and the sides of a mask (01, Limits), for labelling and run extents alike; the bytes of a mask (01, refusals 3 and 16).
use Rattle.std.specs.Prelude.{ℕ, ◌*◌, Bool, not, ◌&&◌, List, get_or, ltb, leb}
use Rattle.memory.specs.rules.Limits.{max_mask_side, max_mask_dots}
use Rattle.memory.specs.rules.Lists.{greatest}
use Rattle.memory.specs.rules.Refusals.{refuse_if}

-- any non-zero byte is ink
unfoldable pub is_ink : List ℕ → ℕ → Bool
is_ink m i = ltb 0 (get_or m i 0)

-- no byte is above 1
unfoldable pub is_mask : List ℕ → Bool
is_mask m = leb (greatest m) 1

-- a side of a mask: 1 to 131,072
abbrev pub is_mask_side : ℕ → Bool
is_mask_side n = ltb 0 n && leb n max_mask_side

-- 1: a side or a dot count outside its limit; else what the later tests give
unfoldable pub sides_refusal : ℕ → ℕ → ℕ → ℕ
sides_refusal w h rest = refuse_if (not (is_mask_side w && is_mask_side h)) 1 (refuse_if (ltb max_mask_dots (w * h)) 1 rest)
