-- Spans: runs of one component that follow one another in a row, absorbed at once.
use Rattle.std.specs.Prelude.{◌≡◌, List, ℕ, suc, ◌+◌, ◌*◌, ◌/◌, ◌%◌, ◌≤◌, ◌<◌, max, take}
use Rattle.memory.specs.rules.Lists.{count_if}
use Rattle.memory.specs.rules.Limits.{max_mask_side}
use Rattle.labelling.specs.stages.Absorbing.{absorbed_span}
use Rattle.labelling.specs.stages.InkRuns.{start_of, end_of, is_root, component_number, component_runs}
use Rattle.labelling.specs.stages.Linking.{first_run}
use Rattle.labelling.specs.stages.Tallying.{Tallyable}
use Rattle.labelling.specs.declared.component.Component.{Component}

-- the number of run k's component, by the turns t of c runs
abbrev pub number_by_runs : ℕ → ℕ → List ℕ → ℕ → ℕ
number_by_runs w c t k = component_number (first_run w c t) k

-- how many components the first k runs have
abbrev pub count_to : ℕ → ℕ → List ℕ → ℕ → ℕ
count_to w c t k = count_if (is_root (first_run w c t)) k

-- component q by the first k runs
abbrev pub record_to : ℕ → ℕ → List ℕ → ℕ → ℕ → Component
record_to w c t q k = component_runs w (start_of t) (end_of t 0) (first_run w c t) q k

-- the runs from `first` up to `next` are one span: its last column, its dots and the sum of their columns
pub record SpanOf (w c : ℕ) (t : List ℕ) (first next last dots sum : ℕ) : Type 0 where
  pub some : first < next
  pub upto : next ≤ c
  pub from : start_of t first % w ≤ last
  pub narrow : last < w
  pub few : dots ≤ suc last
  pub light : sum ≤ max_mask_side * dots
  pub ends : (j : ℕ) → suc j ≡ next → end_of t 0 j ≡ start_of t first / w * w + suc last
  pub counted : max (count_to w c t first) (number_by_runs w c t first) ≡ count_to w c t next
  pub own : record_to w c t (number_by_runs w c t first) next ≡ absorbed_span (record_to w c t (number_by_runs w c t first) first) (start_of t first % w) last dots sum (start_of t first / w)
  pub other : (q : ℕ) → (number_by_runs w c t first ≡ q → ⊥) → record_to w c t q next ≡ record_to w c t q first

-- run `first` of the words s is to be the first of a span, in the row that starts at dot `base`
pub record SpanAhead (w c : ℕ) (s : List ℕ) (base first : ℕ) : Type 0 where
  pub comps : List ℕ
  pub asks : Tallyable w c s comps
  pub here : first < c
  pub row : base ≡ start_of (take (2 * c) s) first / w * w
