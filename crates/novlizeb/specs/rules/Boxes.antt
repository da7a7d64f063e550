-- A box of its four numbers.
use Rattle.std.specs.Prelude.{ℕ}
use Rattle.memory.specs.declared.rect.Rect.{Rect}

abbrev pub rect_of : ℕ → ℕ → ℕ → ℕ → Rect
rect_of a b c d = record { x0 = a; y0 = b; x1 = c; y1 = d }
