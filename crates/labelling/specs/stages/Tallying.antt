-- What the records of the components are made of, span by span.
use Rattle.std.specs.Prelude.{◌≡◌, cond, List, ◌++◌, ℕ, suc, ◌+◌, ◌-◌, ◌*◌, ◌/◌, ◌^◌, ◌≤◌, ◌<◌, get_or, length, take, drop, ltb}
use Rattle.memory.specs.rules.Lists.{table, count_if}
use Rattle.memory.specs.rules.Words.{over}
use Rattle.memory.specs.rules.Records.{encoded}
use Rattle.memory.specs.rules.Limits.{max_mask_side, max_mask_dots, component_words}
use Rattle.labelling.specs.rules.Components.{no_dots}
use Rattle.labelling.specs.stages.Absorbing.{absorbed_span}
use Rattle.labelling.specs.rules.RecordWords.{record_words}
use Rattle.labelling.specs.stages.RecordParts.{record_of}
use Rattle.labelling.specs.stages.InkRuns.{start_of, end_of, is_root, component_number, component_runs}
use Rattle.labelling.specs.stages.Linking.{RunList, first_run}
use Rattle.labelling.specs.declared.component.Component.{Component}

-- the record of a component so far, where `count` have one
unfoldable pub held_record : List ℕ → ℕ → ℕ → Component
held_record s number count = cond (ltb count number) no_dots (record_of (take component_words (drop ((number - 1) * component_words) s)))

-- the words with a span of row y absorbed: so many dots, from column x to column `last`, whose columns add up to `sum`
abbrev pub tallied : List ℕ → ℕ → ℕ → ℕ → ℕ → ℕ → ℕ → ℕ → List ℕ
tallied s number count x last dots sum y =
    take ((number - 1) * component_words) s ++ (record_words (absorbed_span (held_record s number count) x last dots sum y) ++ drop ((number - 1) * component_words + component_words) s)

-- a record whose numbers have room for a span more
pub record Small (c : Component) : Type 0 where
  pub area : c.area ≤ max_mask_dots
  pub sum_x : c.sum_x ≤ 2 ^ 60
  pub sum_y : c.sum_y ≤ 2 ^ 60

-- a span within a row, a number that has room, and a record that has
pub record SpanTallyable (s : List ℕ) (number count x last dots sum y : ℕ) : Type 0 where
  pub counted : 0 < number
  pub room : number * component_words ≤ length s
  pub order : x ≤ last
  pub narrow : last < max_mask_side
  pub few : dots ≤ max_mask_side
  pub light : sum ≤ 2 ^ 60
  pub low : y ≤ max_mask_dots
  pub small : Small (held_record s number count)

-- the words of the components' records, of the first k of the c runs that the words s hold
abbrev pub records : ℕ → ℕ → List ℕ → ℕ → List ℕ
records w c s k =
    encoded record_words
    (table (λ q. component_runs w (start_of (take (2 * c) s)) (end_of (take (2 * c) s) 0) (first_run w c (take (2 * c) s)) (suc q) k)
    (count_if (is_root (first_run w c (take (2 * c) s))) k))

-- runs within rows of w dots, with the numbers of their components, and room for a record of each
pub record Tallyable (w c : ℕ) (s components : List ℕ) : Type 0 where
  pub list : RunList w c s
  pub within : (k : ℕ) → k < c → end_of (take (2 * c) s) 0 k ≤ max_mask_dots
  pub row : (k i : ℕ) → k < c → start_of (take (2 * c) s) k ≤ i → i < end_of (take (2 * c) s) 0 k → i / w ≡ start_of (take (2 * c) s) k / w
  pub numbers : (k : ℕ) → k < c → get_or s (2 * c + k) 0 ≡ component_number (first_run w c (take (2 * c) s)) k
  pub room : count_if (is_root (first_run w c (take (2 * c) s))) c * component_words ≤ length components

-- the first k runs are tallied
pub record TallySweep (w c : ℕ) (s comps₀ comps : List ℕ) (k count : ℕ) : Type 0 where
  pub asks : Tallyable w c s comps₀
  pub upto : k ≤ c
  pub count_is : count ≡ count_if (is_root (first_run w c (take (2 * c) s))) k
  pub words : comps ≡ over (records w c s k) comps₀
