-- Runs of ink: the longest stretches of ink dots within a row. Run k has the dots from `start k` up to, and without, `end k`.
use Rattle.std.specs.Prelude.{◌≡◌, List, [], ◌∷◌, ◌++◌, Bool, true, false, cond, ◌&&◌, not, ℕ, zero, suc, ◌+◌, ◌-◌, ◌*◌, ◌/◌, ◌%◌, ◌≤◌, ◌<◌, get_or, eqb, leb}
use Rattle.memory.specs.rules.Lists.{count_if}
use Rattle.memory.specs.rules.Masks.{is_ink}
use Rattle.labelling.specs.rules.Components.{no_dots, absorbed}
use Rattle.labelling.specs.declared.component.Component.{Component}

-- whether the dot just before i lies in i's row and is ink
unfoldable pub ink_before : ℕ → List ℕ → ℕ → Bool
ink_before w m zero = false
ink_before w m (suc i) = cond (eqb (suc i % w) 0) false (is_ink m i)

-- one of the two and not both
unfoldable pub differ : Bool → Bool → Bool
differ true b = not b
differ false b = b

-- i is put at the end of l, if t
unfoldable pub append_if : Bool → ℕ → List ℕ → List ℕ
append_if true i l = l ++ (i ∷ [])
append_if false i l = l

-- where the first n dots, read row by row, turn from blank to ink or back; the end of a row ends a run
unfoldable pub turns : ℕ → List ℕ → ℕ → List ℕ
turns w m zero = []
turns w m (suc i) = append_if (is_ink m i && eqb (suc i % w) 0) (suc i) (append_if (differ (ink_before w m i) (is_ink m i)) i (turns w m i))

-- a run starts at dot i
unfoldable pub opens_run : ℕ → List ℕ → ℕ → Bool
opens_run w m i = is_ink m i && not (ink_before w m i)

-- how many runs the first n dots have
unfoldable pub run_count : ℕ → List ℕ → ℕ → ℕ
run_count w m n = count_if (opens_run w m) n

-- the run that ink dot i lies in
unfoldable pub run_of : ℕ → List ℕ → ℕ → ℕ
run_of w m i = run_count w m (suc i) - 1

-- where run k starts, by the turns t of the first n dots
abbrev pub start_of : List ℕ → ℕ → ℕ
start_of t k = get_or t (2 * k) 0

-- where it ends; a run that has not ended yet ends at n
abbrev pub end_of : List ℕ → ℕ → ℕ → ℕ
end_of t n k = get_or t (2 * k + 1) n

-- c runs are the runs of the first n dots, and `run_at` gives each ink dot the number of its run
pub record Runs (w : ℕ) (m : List ℕ) (n c : ℕ) (start end run_at : ℕ → ℕ) : Type 0 where
  pub some : (k : ℕ) → k < c → start k < end k
  pub within : (k : ℕ) → k < c → end k ≤ n
  pub ink : (k i : ℕ) → k < c → start k ≤ i → i < end k → is_ink m i ≡ true
  pub row : (k i : ℕ) → k < c → start k ≤ i → i < end k → i / w ≡ start k / w
  pub rising : (j k : ℕ) → j < k → k < c → end j ≤ start k
  pub apart : (j k : ℕ) → j < k → k < c → start j / w ≡ start k / w → end j < start k
  pub has : (i : ℕ) → i < n → is_ink m i ≡ true → run_at i < c
  pub from : (i : ℕ) → i < n → is_ink m i ≡ true → start (run_at i) ≤ i
  pub upto : (i : ℕ) → i < n → is_ink m i ≡ true → i < end (run_at i)

-- run a and the later run b: in rows next to each other, their columns, one more on each side, shared
unfoldable pub touch_runs : ℕ → (ℕ → ℕ) → (ℕ → ℕ) → ℕ → ℕ → Bool
touch_runs w start end a b = eqb (start a / w + 1) (start b / w) && leb (start a + w) (end b) && leb (start b) (end a + w)

-- whether run k is the first of its component; rep has the first run of each run's component
unfoldable pub is_root : (ℕ → ℕ) → ℕ → Bool
is_root rep k = eqb (rep k) k

-- the number of run k's component, counted from 1 by first run
unfoldable pub component_number : (ℕ → ℕ) → ℕ → ℕ
component_number rep k = count_if (is_root rep) (suc (rep k))

-- the label that the runs give dot i
unfoldable pub run_label : ℕ → List ℕ → (ℕ → ℕ) → ℕ → ℕ
run_label w m rep i = cond (is_ink m i) (component_number rep (run_of w m i)) 0

-- d dots from s on, absorbed one by one
unfoldable pub absorb_dots : ℕ → ℕ → ℕ → Component → Component
absorb_dots w s zero p = p
absorb_dots w s (suc d) p = let q = absorb_dots w s d p in absorbed q ((s + d) % w) ((s + d) / w)

-- of the first c runs, those of component q, absorbed one by one
unfoldable pub component_runs : ℕ → (ℕ → ℕ) → (ℕ → ℕ) → (ℕ → ℕ) → ℕ → ℕ → Component
component_runs w start end rep q zero = no_dots
component_runs w start end rep q (suc k) =
    let p = component_runs w start end rep q k in
    let t = absorb_dots w (start k) (end k - start k) p in
    cond (eqb (component_number rep k) q) t p
