-- The record of a component, 01's piece: area, inclusive box, sums of x and y (01, part 2).
use Rattle.std.specs.Prelude.{ℕ, ◌+◌, min, max}
use Rattle.memory.specs.declared.rect.Rect.{Rect}
use Rattle.labelling.specs.declared.component.Component.{Component}

-- no dot yet: any dot's coordinates replace these ends
abbrev pub no_dots : Component
no_dots = record { area = 0; x0 = 4294967295; y0 = 4294967295; x1 = 0; y1 = 0; sum_x = 0; sum_y = 0 }

-- the dot in column x and row y more
abbrev pub absorbed : Component → ℕ → ℕ → Component
absorbed c x y =
    record {
      area = c.area + 1;
      x0 = min c.x0 x;
      y0 = min c.y0 y;
      x1 = max c.x1 x;
      y1 = max c.y1 y;
      sum_x = c.sum_x + x;
      sum_y = c.sum_y + y;
    }

-- its box
abbrev pub box_of : Component → Rect
box_of c = record { x0 = c.x0; y0 = c.y0; x1 = c.x1; y1 = c.y1 }
