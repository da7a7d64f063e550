-- Runs of small masks, by computation.
use mathlib.Core.Path.{◌≡◌, refl}
use mathlib.Core.List.{List, [], ◌∷◌}
use Prim.Native.Nat.{ℕ}
use Rattle.memory.specs.rules.Lists.{table, upto, count_if}
use Rattle.union_find.specs.rules.Classes.{first_of, renamed, join, join_if, join_one, join_all, firsts}
use Rattle.memory.specs.rules.Masks.{is_ink}
use Rattle.labelling.specs.rules.Labels.{touches, is_first, label_at}
use Rattle.labelling.specs.stages.InkRuns.{ink_before, differ, append_if, turns, opens_run, run_count, run_of, start_of, end_of, touch_runs, is_root, component_number, run_label}

-- 101 / 110: a run that ends a row and one that starts the next are two
mask : List ℕ
mask = 1 ∷ 0 ∷ 1 ∷ 1 ∷ 1 ∷ 0 ∷ []

mask-turns : turns 3 mask 6 ≡ 0 ∷ 1 ∷ 2 ∷ 3 ∷ 3 ∷ 5 ∷ []
unfolding turns append_if differ ink_before is_ink mask
mask-turns = refl

mask-runs : table (run_of 3 mask) 6 ≡ 0 ∷ 0 ∷ 1 ∷ 2 ∷ 2 ∷ 2 ∷ []
unfolding table run_of run_count count_if opens_run ink_before is_ink mask
mask-runs = refl

mask-firsts : firsts (touch_runs 3 (start_of (0 ∷ 1 ∷ 2 ∷ 3 ∷ 3 ∷ 5 ∷ [])) (end_of (0 ∷ 1 ∷ 2 ∷ 3 ∷ 3 ∷ 5 ∷ []) 0)) 3 ≡ 0 ∷ 0 ∷ 0 ∷ []
unfolding firsts join_all join_one join_if join renamed upto table touch_runs
mask-firsts = refl

-- 1001 / 0000 / 1010 / 0101: the last dot of a row and the first of the row after next do not touch
mask₂ : List ℕ
mask₂ = 1 ∷ 0 ∷ 0 ∷ 1 ∷ 0 ∷ 0 ∷ 0 ∷ 0 ∷ 1 ∷ 0 ∷ 1 ∷ 0 ∷ 0 ∷ 1 ∷ 0 ∷ 1 ∷ []

mask₂-turns : turns 4 mask₂ 16 ≡ 0 ∷ 1 ∷ 3 ∷ 4 ∷ 8 ∷ 9 ∷ 10 ∷ 11 ∷ 13 ∷ 14 ∷ 15 ∷ 16 ∷ []
unfolding turns append_if differ ink_before is_ink mask₂
mask₂-turns = refl

mask₂-labels : table (run_label 4 mask₂ (first_of (firsts (touch_runs 4 (start_of (turns 4 mask₂ 16)) (end_of (turns 4 mask₂ 16) 0)) 6))) 16 ≡ table (label_at mask₂ (firsts (touches 4 mask₂) 16)) 16
unfolding run_label component_number is_root run_of run_count count_if opens_run label_at is_first touches touch_runs firsts join_all join_one join_if join renamed upto table turns append_if differ ink_before is_ink mask₂
mask₂-labels = refl
