-- What grouping asks of the words of the lines.
use Rattle.std.specs.Prelude.{List, ℕ, ◌+◌, ◌*◌, ◌≤◌, ◌<◌, length}
use Rattle.memory.specs.rules.Lists.{table}
use Rattle.memory.specs.declared.rect.Rect.{Rect}
use Rattle.memory.specs.stages.Boxes.{Inside}
use Rattle.smoothing.specs.rules.LineRecords.{line_words}
use Rattle.grouping.specs.rules.HeldLines.{line_box}

-- the boxes of the first n lines
abbrev pub line_boxes : List ℕ → ℕ → List Rect
line_boxes s n = table (line_box s) n

-- the lines go by y0: none starts above the one before it
abbrev pub ByTop : ℕ → List ℕ → Type 0
ByTop n s = (i j : ℕ) → i ≤ j → j < n → (line_box s i).y0 ≤ (line_box s j).y0

-- n lines of a frame, their boxes inside it
pub record Lines (w h n : ℕ) (s : List ℕ) : Type 0 where
  pub room : n * line_words ≤ length s
  pub boxes : (i : ℕ) → i < n → Inside w h (line_box s i)

-- n lines of a frame h high that go by y0, with so many words of scratch
pub record Groupable (n h : ℕ) (s : List ℕ) (scratch : ℕ) : Type 0 where
  pub w : ℕ
  pub lines : Lines w h n s
  pub narrow : w ≤ 4294967295
  pub low : h < 4294967295
  pub few : n ≤ 4294967295
  pub by_top : ByTop n s
  pub heights : h + 1 ≤ scratch
  pub parents : n ≤ scratch
