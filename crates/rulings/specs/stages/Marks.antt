-- The marks of both cut masks, a word a dot.
use Rattle.std.specs.Prelude.{◌≡◌, ℕ, ◌+◌, ◌*◌, ◌<◌, length, drop, false, cond, List}
use Rattle.memory.specs.rules.Lists.{table}
use Rattle.memory.specs.rules.Masks.{is_ink}
use Rattle.memory.specs.rules.Words.{over}
use Rattle.rulings.specs.rules.Rulings.{cut_horizontal, cut_vertical}
use Rattle.rulings.specs.declared.scanlines.Found.{Found}

-- the mark of dot i: 1 in the horizontal cut mask, 2 in the vertical one, 3 in both
unfoldable pub cut_mark : ℕ → ℕ → ℕ → ℕ → List ℕ → ℕ → ℕ
cut_mark run_min thick_max w h m i =
    cond (is_ink (cut_horizontal run_min thick_max w h m) i) 1 0 + cond (is_ink (cut_vertical run_min thick_max w h m) i) 2 0

-- a mask of n dots without ink
abbrev pub Blank : List ℕ → ℕ → Type 0
Blank m n = (i : ℕ) → i < n → is_ink m i ≡ false

-- the marks stand from word `marks` on, and what lies past them is as it was; no dot is cut of a kind that is told false
pub record RulingsMarked (run_min thick_max w h : ℕ) (m : List ℕ) (marks : ℕ) (s s' : List ℕ) (found : Found) : Type 0 where
  pub len : length s' ≡ length s
  pub marked : drop marks s' ≡ over (table (cut_mark run_min thick_max w h m) (w * h)) (drop marks s)
  pub no_horizontal : found.horizontal ≡ false → Blank (cut_horizontal run_min thick_max w h m) (w * h)
  pub no_vertical : found.vertical ≡ false → Blank (cut_vertical run_min thick_max w h m) (w * h)
