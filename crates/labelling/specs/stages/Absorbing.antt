-- A run or a span of dots absorbed at once, as the dots one by one would be.
use Rattle.std.specs.Prelude.{ℕ, zero, suc, ◌+◌, ◌*◌, min, max}
use Rattle.labelling.specs.declared.component.Component.{Component}

-- x + (x + 1) + .., d of them
unfoldable pub column_sum : ℕ → ℕ → ℕ
column_sum x zero = 0
column_sum x (suc d) = column_sum x d + (x + d)

-- the dots of row y from column x to column x + d more
abbrev pub absorbed_run : Component → ℕ → ℕ → ℕ → Component
absorbed_run c x d y =
    record {
      area = c.area + suc d;
      x0 = min c.x0 x;
      y0 = min c.y0 y;
      x1 = max c.x1 (x + d);
      y1 = max c.y1 y;
      sum_x = c.sum_x + column_sum x (suc d);
      sum_y = c.sum_y + suc d * y;
    }

-- dots of row y more: so many, from column x to column `last`, whose columns add up to `sum`
abbrev pub absorbed_span : Component → ℕ → ℕ → ℕ → ℕ → ℕ → Component
absorbed_span c x last dots sum y =
    record {
      area = c.area + dots;
      x0 = min c.x0 x;
      y0 = min c.y0 y;
      x1 = max c.x1 last;
      y1 = max c.y1 y;
      sum_x = c.sum_x + sum;
      sum_y = c.sum_y + dots * y;
    }
