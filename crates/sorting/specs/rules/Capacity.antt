-- How many components the labellings of an ink plane have: more than P in one of them is 20 (01, "Turned back").
use Rattle.std.specs.Prelude.{[], ◌∷◌, map, List, ℕ, length}
use Rattle.memory.specs.rules.Lists.{greatest}
use Rattle.labelling.specs.rules.Labels.{Labelling, labelling}
use Rattle.sorting.specs.rules.Sorted.{Sorted}
use Rattle.labelling.specs.declared.component.Component.{Component}
use Rattle.rulings.specs.rules.Rulings.{cut_horizontal, cut_vertical}

-- the most components of the four labellings of sorting
abbrev pub most_components : Sorted → ℕ
most_components s = greatest (map (λ (l : Labelling). length l.components) (s.ink ∷ s.horizontal ∷ s.vertical ∷ s.rest ∷ []))

-- the components of a mask
abbrev pub components_of : ℕ → ℕ → List ℕ → List Component
components_of w h m = (labelling w h m).components

-- the most components of the two cut masks
abbrev pub most_cuts : ℕ → ℕ → ℕ → ℕ → List ℕ → ℕ
most_cuts run_min thick_max w h m =
    greatest (map (λ (a : List ℕ). length (components_of w h a)) (cut_horizontal run_min thick_max w h m ∷ cut_vertical run_min thick_max w h m ∷ []))
