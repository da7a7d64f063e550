-- What the stages of labelling called by itself ask and leave, once only 20 can refuse.
use Rattle.std.specs.Prelude.{◌≡◌, List, ℕ, ◌*◌, ◌≤◌, ◌<◌, length, Result}
use Rattle.memory.specs.rules.Limits.{max_mask_side, max_mask_dots, max_capacity, component_words, scratch_words}
use Rattle.labelling.specs.rules.Labels.{Labelling, labelling}
use Rattle.memory.specs.declared.refusals.Refusal.{Refusal}
use Rattle.memory.specs.rules.Refusals.{answer_number, answer_value}
use Rattle.labelling.specs.rules.Answer.{count_told, many_refusal, labels_left, components_left}

-- a call that only 20 can refuse
pub record Workable (w h : ℕ) (m : List ℕ) (P : ℕ) (labels components s : List ℕ) : Type 0 where
  pub wide : 0 < w
  pub narrow : w ≤ max_mask_side
  pub high : 0 < h
  pub low : h ≤ max_mask_side
  pub dots : w * h ≤ max_mask_dots
  pub whole : length m ≡ w * h
  pub few : P ≤ max_capacity
  pub labels_room : w * h ≤ length labels
  pub records_room : component_words * P ≤ length components
  pub words_room : scratch_words (w * h) P ≤ length s

-- what the stages leave
pub record Worked (r : Result ℕ Refusal) (labels' components' : List ℕ) (n : ℕ) (L : Labelling) (labels components : List ℕ) : Type 0 where
  pub number : answer_number r ≡ n
  pub count : answer_value r ≡ count_told n (length L.components)
  pub labelled : labels' ≡ labels_left n L labels
  pub recorded : components' ≡ components_left n L components

-- the same where only 20 can refuse
abbrev pub worked : Result ℕ Refusal → List ℕ → List ℕ → ℕ → ℕ → List ℕ → ℕ → List ℕ → List ℕ → Type 0
worked r labels' components' w h m P labels components =
    Worked r labels' components' (many_refusal (length (labelling w h m).components) P) (labelling w h m) labels components
