-- Boxes and kinds of components, and packed boxes of cuts, as the words of scratch hold them.
use Rattle.std.specs.Prelude.{◌≡◌, List, ◌++◌, map, ℕ, ◌+◌, ◌*◌, ◌%◌, ◌<◌, get_or, length, eqb}
use Rattle.memory.specs.rules.Lists.{table, upto, keep, total}
use Rattle.memory.specs.declared.rect.Rect.{Rect}
use Rattle.sorting.specs.rules.Kinds.{rule_kind}
use Rattle.sorting.specs.stages.Measures.{size_box, unpacked}

-- the kind of component k: the remainder by 8 of word kinds + k
abbrev pub held_kind : List ℕ → ℕ → ℕ → ℕ
held_kind s kinds k = get_or s (kinds + k) 0 % 8

-- the words from word `kinds` on hold these kinds
abbrev pub KindsHeld : List ℕ → List ℕ → ℕ → Type 0
KindsHeld ks s kinds = (k : ℕ) → k < length ks → held_kind s kinds k ≡ get_or ks k 0

-- those of the first n components that are of this kind, by number
unfoldable pub of_kind : List ℕ → ℕ → ℕ → ℕ → List ℕ
of_kind s kinds kind n = keep (λ k. eqb (held_kind s kinds k) kind) (upto n)

-- their boxes
unfoldable pub held_boxes : List ℕ → ℕ → ℕ → ℕ → ℕ → List Rect
held_boxes s sizes kinds kind n = map (size_box s sizes) (of_kind s kinds kind n)

-- their areas together
unfoldable pub held_area : List ℕ → ℕ → ℕ → ℕ → ℕ → ℕ
held_area s sizes kinds kind n = total (map (λ k. get_or s (sizes + 5 * k) 0) (of_kind s kinds kind n))

-- n boxes packed from word `from` on
unfoldable pub unpacked_boxes : List ℕ → ℕ → ℕ → List Rect
unpacked_boxes s from n = table (λ k. unpacked (get_or s (from + 2 * k) 0) (get_or s (from + 2 * k + 1) 0)) n

-- the rules: two lists of packed boxes, then the boxes of the components that are rules
unfoldable pub held_rules : List ℕ → ℕ → ℕ → ℕ → ℕ → ℕ → ℕ → ℕ → List Rect
held_rules s horizontal a vertical b sizes kinds n = (unpacked_boxes s horizontal a ++ unpacked_boxes s vertical b) ++ held_boxes s sizes kinds rule_kind n
