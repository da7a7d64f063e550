-- The components of a mask w wide and h high (01, part 2). Dot i lies in column i % w and row i / w: raster order.
use Rattle.std.specs.Prelude.{ℕ, zero, suc, ◌+◌, ◌*◌, ◌/◌, ◌%◌, Bool, cond, ◌&&◌, List, get_or, eqb, leb}
use Rattle.memory.specs.rules.Lists.{table, count_if}
use Rattle.memory.specs.rules.Masks.{is_ink}
use Rattle.union_find.specs.rules.Classes.{first_of, firsts}
use Rattle.labelling.specs.rules.Components.{no_dots, absorbed}
use Rattle.labelling.specs.declared.component.Component.{Component}

-- two ink dots whose columns and rows differ by at most one: 8-connected neighbours
unfoldable pub touches : ℕ → List ℕ → ℕ → ℕ → Bool
touches w m a b =
    is_ink m a && is_ink m b && leb (a % w) (b % w + 1) && leb (b % w) (a % w + 1) && leb (a / w) (b / w + 1) && leb (b / w) (a / w + 1)

-- whether dot k is the first of a component; l has the first dot of each dot's component
unfoldable pub is_first : List ℕ → List ℕ → ℕ → Bool
is_first m l k = is_ink m k && eqb (first_of l k) k

-- 0 on a blank dot, else the component's number, counted from 1 by first dot
unfoldable pub label_at : List ℕ → List ℕ → ℕ → ℕ
label_at m l j = cond (is_ink m j) (count_if (is_first m l) (suc (first_of l j))) 0

-- of the first t dots, those labelled k, absorbed one by one
unfoldable pub component_to : ℕ → List ℕ → ℕ → ℕ → Component
component_to w labels k zero = no_dots
component_to w labels k (suc t) =
    let c = component_to w labels k t in
    let d = absorbed c (t % w) (t / w) in
    cond (eqb (get_or labels t 0) k) d c

-- a label for each dot, and the components by their number
pub record Labelling : Type 0 where
  pub labels : List ℕ
  pub components : List Component

-- `label_8`
unfoldable pub labelling : ℕ → ℕ → List ℕ → Labelling
labelling w h m =
    let n = w * h in
    let l = firsts (touches w m) n in
    let labels = table (label_at m l) n in
    record { labels = labels; components = table (λ k. component_to w labels (suc k) n) (count_if (is_first m l) n) }
