-- How the code moves a page plane: frame rows by plateaus of columns, or page dots by tiles of columns. No promise of the crate names
-- these; that they come to `levelled` is a law.
use Rattle.std.specs.Prelude.{ℕ, zero, suc, ◌+◌, ◌-◌, ◌*◌, ◌≤◌, ◌<◌, ◌≡◌, Bool, cond, ◌&&◌, ◌||◌, List, get_or, length, leb, ltb}
use Rattle.memory.specs.rules.Lists.{table}
use Rattle.memory.specs.rules.Words.{over}
use Rattle.levelling.specs.rules.Frames.{Frame, frame_of}
use Rattle.levelling.specs.stages.Rooms.{PlaneFits}
use Rattle.levelling.specs.rules.Planes.{levelled}

-- what lies on frame row r in a page column c that moves by s: the rule by column, as the code goes
unfoldable pub column_at : List ℕ → ℕ → ℕ → ℕ → ℕ → ℕ → ℕ → ℕ
column_at page fill page_w page_h r s c = cond (leb s r && ltb (r - s) page_h) (get_or page ((r - s) * page_w + c) fill) fill

-- the columns from c up to e move by the same number of rows
pub record Plateau (shear : List ℕ) (c e : ℕ) : Type 0 where
  pub some : c < e
  pub inside : e ≤ length shear
  pub level : (k : ℕ) → c ≤ k → k < e → get_or shear k 0 ≡ get_or shear c 0

-- from each column c on, `from` and behind, such a plateau ends at ends[c]
abbrev pub Plateaus : List ℕ → List ℕ → ℕ → Type 0
Plateaus shear ends from = (c : ℕ) → from ≤ c → c < length shear → Plateau shear c (get_or ends c 0)

-- the number in a frame w wide of page dot (c, y)
abbrev pub place_of : List ℕ → List ℕ → ℕ → ℕ → ℕ → ℕ
place_of shear shear_x w y c = (y + get_or shear c 0) * w + (c + get_or shear_x (y + get_or shear c 0) 0)

-- the page with those dots that are done, the others as added dots are
unfoldable pub shown : (ℕ → Bool) → ℕ → List ℕ → List ℕ
shown done fill page = table (λ j. cond (done j) (get_or page j fill) fill) (length page)

-- the frame of those dots, over the front of s
abbrev pub partly : Frame → ℕ → List ℕ → (ℕ → Bool) → List ℕ → List ℕ
partly f fill page done s = over (levelled f fill (shown done fill page)) s

-- those that are done, and those from a up to b
abbrev pub or_range : (ℕ → Bool) → ℕ → ℕ → ℕ → Bool
or_range done a b j = done j || (leb a j && ltb j b)

-- those that are done, and the columns c up to c + n of the first rows of a page w wide
unfoldable pub or_rows : (ℕ → Bool) → ℕ → ℕ → ℕ → ℕ → ℕ → Bool
or_rows done w c n zero = done
or_rows done w c n (suc y) = or_range (or_rows done w c n y) (y * w + c) (y * w + c + n)

-- the lengths for n dots of page row y, from column c on
pub record PartFits (page_w : ℕ) (shear shear_x : List ℕ) (w : ℕ) (page out : List ℕ) (y c n : ℕ) : Type 0 where
  pub columns : c + n ≤ length shear
  pub dots : y * page_w + (c + n) ≤ length page
  pub room : w * length shear_x ≤ length out
  pub rows : (k : ℕ) → y + get_or shear k 0 < length shear_x
  pub inside : (r : ℕ) → get_or shear_x r 0 + length shear ≤ w

-- moving those dots makes them done, whichever were
abbrev pub MovesPart : ℕ → List ℕ → List ℕ → ℕ → ℕ → List ℕ → ℕ → ℕ → ℕ → List ℕ → List ℕ → Type 0
MovesPart page_w shear shear_x w fill page y c n before after =
    (page_h : ℕ) (done : ℕ → Bool) (s : List ℕ) → y < page_h → PlaneFits (frame_of page_w page_h shear shear_x w (length shear_x)) page before
    → before ≡ partly (frame_of page_w page_h shear shear_x w (length shear_x)) fill page done s
    → after ≡ partly (frame_of page_w page_h shear shear_x w (length shear_x)) fill page (or_range done (y * page_w + c) (y * page_w + c + n)) s
