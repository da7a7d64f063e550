-- What painting asks and gives.
use Rattle.std.specs.Prelude.{◌≡◌, List, ◌++◌, ℕ, suc, ◌+◌, ◌-◌, ◌*◌, ◌≤◌, ◌<◌, get_or, length, take, drop}
use Rattle.memory.specs.rules.Lists.{table}
use Rattle.memory.specs.rules.Limits.{max_mask_dots}
use Rattle.memory.specs.stages.Stored.{Stored}
use Rattle.labelling.specs.stages.InkRuns.{start_of, end_of}
use Rattle.labelling.specs.stages.Linking.{Order}
use Rattle.labelling.specs.stages.Spans.{SpanAhead, SpanOf}
use Rattle.labelling.specs.stages.Tallying.{TallySweep}

-- the front of l is the table of f up to i, and what lies past is as in l₀
abbrev pub Front : (ℕ → ℕ) → List ℕ → List ℕ → ℕ → Type 0
Front f l₀ l i = l ≡ table f i ++ drop i l₀

-- c runs by their turns t, and behind them their numbers
abbrev pub numbered : ℕ → List ℕ → List ℕ → List ℕ
numbered c t numbers = take (2 * c) t ++ numbers

-- the labels, cleared up to `clear`, are cleared up to r: `end` or further, but not past `limit`
pub record Cleared (l l' : List ℕ) (clear end limit r : ℕ) : Type 0 where
  pub from : clear ≤ r
  pub reach : end ≤ r
  pub upto : r ≤ limit
  pub filled : Stored (λ _. 0) clear (r - clear) l l'

-- cleared so, up to r, and then the value v from `start` up to `end`
pub record RunPainted (l l' : List ℕ) (clear start end limit v r : ℕ) : Type 0 where
  pub between : List ℕ
  pub cleared : Cleared l between clear end limit r
  pub filled : Stored (λ _. v) start (end - start) between l'

-- c runs within n dots, with their numbers, and a label for each dot
pub record Paintable (s : List ℕ) (c : ℕ) (l : List ℕ) (n : ℕ) : Type 0 where
  pub room : 3 * c ≤ length s
  pub dots : n ≤ max_mask_dots
  pub labels : n ≤ length l
  pub order : Order c (take (2 * c) s)
  pub within : (k : ℕ) → k < c → end_of (take (2 * c) s) 0 k ≤ n

-- f has each run's number on its dots
abbrev pub OnRuns : List ℕ → ℕ → (ℕ → ℕ) → Type 0
OnRuns s c f = (k i : ℕ) → k < c → start_of (take (2 * c) s) k ≤ i → i < end_of (take (2 * c) s) 0 k → f i ≡ get_or s (2 * c + k) 0

-- and 0 before run k, after the run before it
abbrev pub OffRuns : List ℕ → ℕ → ℕ → (ℕ → ℕ) → Type 0
OffRuns s c n f = (k i : ℕ) → k ≤ c → i < n → (k < c → i < start_of (take (2 * c) s) k) → ((j : ℕ) → suc j ≡ k → end_of (take (2 * c) s) 0 j ≤ i) → f i ≡ 0

-- the labels are the table of each such f
pub record Painted (s : List ℕ) (c : ℕ) (l l' : List ℕ) (n : ℕ) : Type 0 where
  pub len : length l' ≡ length l
  pub painted : (f : ℕ → ℕ) → OnRuns s c f → OffRuns s c n f → Front f l l' n

-- the first k runs are painted, up to `done`; from there up to `clear` the labels are 0
pub record PaintSweep (s : List ℕ) (c : ℕ) (l₀ l : List ℕ) (n k clear : ℕ) : Type 0 where
  pub asks : Paintable s c l₀ n
  pub len : length l ≡ length l₀
  pub upto : k ≤ c
  pub inside : clear ≤ n
  pub done : ℕ
  pub reach : done ≤ clear
  pub next : k < c → done ≤ start_of (take (2 * c) s) k
  pub last : (j : ℕ) → suc j ≡ k → end_of (take (2 * c) s) 0 j ≡ done
  pub painted : (f : ℕ → ℕ) → OnRuns s c f → OffRuns s c n f → (i : ℕ) → i < done → get_or l i 0 ≡ f i
  pub blank : (i : ℕ) → done ≤ i → i < clear → get_or l i 0 ≡ 0
  pub past : (i : ℕ) → clear ≤ i → get_or l i 0 ≡ get_or l₀ i 0

-- the runs from k up to k' are painted, in labels that are cleared from `clear` up to clear', whatever was before, in any plane that reaches to dot `limit`
abbrev pub PaintsOn : List ℕ → ℕ → List ℕ → List ℕ → ℕ → ℕ → ℕ → ℕ → ℕ → Type 0
PaintsOn s c l l' limit k clear k' clear' = (n : ℕ) (l₀ : List ℕ) → limit ≤ n → PaintSweep s c l₀ l n k clear → PaintSweep s c l₀ l' n k' clear'

-- the runs before `first` are painted, and the labels up to `clear`, in its row or before it, cleared; the row starts at dot `base`
pub record SpanPaintable (w c : ℕ) (s l : List ℕ) (base first clear : ℕ) : Type 0 where
  pub n : ℕ
  pub l₀ : List ℕ
  pub inside : base + w ≤ n
  pub sweep : PaintSweep s c l₀ l n first clear
  pub near : clear ≤ base + w
  pub ahead : SpanAhead w c s base first

-- the runs from `first` up to `next` are painted, and are one span
pub record SpanPainted (w c : ℕ) (s l l' : List ℕ) (limit first clear next clear' last dots sum : ℕ) : Type 0 where
  pub painted : PaintsOn s c l l' limit first clear next clear'
  pub near : clear' ≤ limit
  pub span : SpanOf w c (take (2 * c) s) first next last dots sum

-- the runs before k are painted and tallied, and the labels up to `clear`, in row y or before it, cleared; the next run lies in that row or past it
pub record RowPaintable (w c : ℕ) (s l comps : List ℕ) (y k count clear : ℕ) : Type 0 where
  pub n : ℕ
  pub l₀ : List ℕ
  pub inside : y * w + w ≤ n
  pub sweep : PaintSweep s c l₀ l n k clear
  pub near : clear ≤ y * w + w
  pub comps₀ : List ℕ
  pub tally : TallySweep w c s comps₀ comps k count
  pub from : k < c → y * w ≤ start_of (take (2 * c) s) k

-- the runs from k up to `next` are painted and tallied, and the next one lies in a row further down
pub record RowPainted (w c : ℕ) (s l l' comps comps' : List ℕ) (y k count clear next count' clear' : ℕ) : Type 0 where
  pub painted : PaintsOn s c l l' (y * w + w) k clear next clear'
  pub near : clear' ≤ y * w + w
  pub tallied : (comps₀ : List ℕ) → TallySweep w c s comps₀ comps k count → TallySweep w c s comps₀ comps' next count'
  pub past : next < c → y * w + w ≤ start_of (take (2 * c) s) next
