-- Smoothing (01, part 7; after Wong, Casey and Wahl, 1982).
use Rattle.std.specs.Prelude.{ℕ, ◌+◌, ◌-◌, ◌*◌, Bool, ◌&&◌, ◌||◌, not, List, Float, get_or, eqb, ltb, leb}
use Rattle.params.specs.declared.LayoutParams.{LayoutParams}
use Rattle.rounding.specs.rules.Lengths.{◌·◌, dots}
use Rattle.extents.specs.rules.Extents.{Plane, mask_of, run_through, behind, ahead}
use Rattle.sorting.specs.rules.Kinds.{glyph_kind}

-- the gap: round(`smear_xh` × unit)
unfoldable pub smoothing_gap : LayoutParams → Float → ℕ
smoothing_gap p unit = dots (p.smear_xh · unit)

-- the glyph dots of a plane of kinds w wide
unfoldable pub glyph_at : ℕ → List ℕ → Plane
glyph_at w plane x y = ltb x w && eqb (get_or plane (y * w + x) 0) glyph_kind

-- place x of a row of n is joined: a glyph dot, or in a run of at most `gap` others with a glyph dot at each end, so that row ends are never filled
unfoldable pub joined : (ℕ → Bool) → ℕ → ℕ → ℕ → Bool
joined glyph n gap x =
    let other : ℕ → Bool = λ k. not (glyph k) in
    glyph x || (leb (run_through other n x) gap && ltb (behind other x) x && ltb (x + ahead other x (n - x)) n)

-- the smoothed mask
unfoldable pub smoothed : ℕ → ℕ → ℕ → List ℕ → List ℕ
smoothed gap w h plane = mask_of w h (λ x y. joined (λ k. glyph_at w plane k y) w gap x)
