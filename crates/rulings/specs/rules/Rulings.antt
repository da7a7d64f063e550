-- Thin rulings (01, part 4).
use Rattle.std.specs.Prelude.{ℕ, ◌+◌, ◌-◌, max, ◌&&◌, ◌||◌, not, List, Float, leb}
use Rattle.params.specs.declared.LayoutParams.{LayoutParams}
use Rattle.rounding.specs.rules.Lengths.{◌·◌, dots}
use Rattle.extents.specs.rules.Extents.{Plane, ink_at, mask_of, run_through, extent}

-- the least run of a thin ruling: max(2, round(`rule_run_xh` × unit))
unfoldable pub run_min : LayoutParams → Float → ℕ
run_min p unit = max 2 (dots (p.rule_run_xh · unit))

-- its greatest thickness: max(1, round(`rule_max_thick_xh` × unit))
unfoldable pub thick_max : LayoutParams → Float → ℕ
thick_max p unit = max 1 (dots (p.rule_max_thick_xh · unit))

-- columns for rows and rows for columns
abbrev pub transposed : Plane → Plane
transposed p x y = p y x

-- a plane widened one dot across its rows; above row 0 there is none, so row 0 stands for it
unfoldable pub widened : Plane → Plane
widened p x y = p x y || p x (y - 1) || p x (y + 1)

-- a dot of a thin ruling along its row: ink, in a run of at least `run_min` on the widened plane, its extent across, on the plane itself, at most `thick_max`
unfoldable pub in_thin_ruling : Plane → ℕ → ℕ → ℕ → ℕ → Plane
in_thin_ruling p w h run_min thick_max x y =
    p x y && leb run_min (run_through (λ k. widened p k y) w x) && leb (extent (p x) h y) thick_max

-- the mask of horizontal cuts
unfoldable pub cut_horizontal : ℕ → ℕ → ℕ → ℕ → List ℕ → List ℕ
cut_horizontal run_min thick_max w h m = mask_of w h (in_thin_ruling (ink_at w m) w h run_min thick_max)

-- the mask of vertical cuts: the same with columns for rows
unfoldable pub cut_vertical : ℕ → ℕ → ℕ → ℕ → List ℕ → List ℕ
cut_vertical run_min thick_max w h m = mask_of w h (transposed (in_thin_ruling (transposed (ink_at w m)) h w run_min thick_max))

-- the ink after the cut: what is in neither cut mask
unfoldable pub after_cut : ℕ → ℕ → List ℕ → List ℕ → List ℕ → List ℕ
after_cut w h horizontal vertical m = mask_of w h (λ x y. ink_at w m x y && not (ink_at w horizontal x y || ink_at w vertical x y))
