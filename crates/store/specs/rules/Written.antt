-- What levelling, segmenting and clearing write into the store; all other words stay (01, Limits: "What lies past these lengths is untouched").
use Rattle.std.specs.Prelude.{List, [], ◌∷◌, ◌++◌, ℕ, Float, take, drop}
use Rattle.memory.specs.rules.Words.{over, put_at}
use Rattle.segmenting.specs.rules.Layouts.{Layout}
use Rattle.segmenting.specs.rules.Figures.{figures_of, figure_words}
use Rattle.segmenting.specs.rules.Results.{results_left}
use Rattle.judging.specs.rules.Header.{empty_state, levelled_state, segmented_state, header_words, figures_at, lists_at, low_word, high_word}
use Rattle.judging.specs.rules.Leaves.{Leaf, levelling_of}

-- the words 1 to 9: page sides, frame sides, P, applied skew and slope
abbrev pub head_words : ℕ → ℕ → ℕ → ℕ → ℕ → Float → Float → List ℕ
head_words pw ph w h P skew slope = pw ∷ ph ∷ w ∷ h ∷ P ∷ low_word skew ∷ high_word skew ∷ low_word slope ∷ high_word slope ∷ []

abbrev pub level_words : Leaf → List ℕ
level_words a = head_words a.w a.h (levelling_of a).frame.w (levelling_of a).frame.h a.capacity (levelling_of a).skew (levelling_of a).slope

-- the store after levelling: state and words 1 to 9, then the two shears behind the header
unfoldable pub store_levelled : Leaf → List ℕ → List ℕ
store_levelled a s = put_at header_words ((levelling_of a).frame.shear ++ (levelling_of a).frame.shear_x) (over (levelled_state ∷ level_words a) s)

-- the store after segmenting a page pw wide in a frame w wide and h high: state and figures, then the lists behind the shears
unfoldable pub store_segmented : ℕ → ℕ → ℕ → ℕ → Layout → List ℕ → List ℕ
store_segmented pw w h P l s =
    let t = put_at figures_at (figure_words (figures_of l)) (over (segmented_state ∷ []) s) in
    take (lists_at pw h) t ++ results_left w P l (drop (lists_at pw h) t)

-- the store after clearing: the state is empty and nothing else changes
abbrev pub store_cleared : List ℕ → List ℕ
store_cleared s = over (empty_state ∷ []) s
