-- From the components after the cut and the smoothed components in scratch to lines and glyphs: what the words hold (01, part 7).
use Rattle.std.specs.Prelude.{◌≡◌, Bool, true, false, cond, List, [], ◌∷◌, map, ℕ, suc, ◌+◌, ◌*◌, ◌-◌, ◌/◌, ◌≤◌, ◌<◌, Float, get_or, length, eqb, ltb}
use Rattle.std.proofs.lemmas.List.Edits.{sets}
use Rattle.memory.specs.rules.Lists.{table, upto, keep, total, sort_by}
use Rattle.memory.specs.rules.Words.{over}
use Rattle.memory.specs.rules.Records.{encoded}
use Rattle.memory.specs.rules.Limits.{max_capacity, max_lines}
use Rattle.memory.specs.rules.Rects.{height}
use Rattle.memory.specs.stages.Stored.{Stored}
use Rattle.labelling.specs.rules.Components.{no_dots}
use Rattle.labelling.specs.stages.Sizes.{HoldsSizes}
use Rattle.memory.specs.declared.rect.Rect.{Rect}
use Rattle.labelling.specs.declared.component.Component.{Component}
use Rattle.params.specs.declared.LayoutParams.{LayoutParams}
use Rattle.sorting.specs.rules.Kinds.{glyph_kind}
use Rattle.sorting.specs.rules.Units.{median}
use Rattle.sorting.specs.stages.Measures.{size_box}
use Rattle.smoothing.specs.rules.Lines.{LabelledGlyph, SmoothedLine, no_smoothed_line, TextLine, is_line, keys_at_most}

-- the glyphs among these components, by number, each with the label of the smoothed component that holds it
unfoldable pub glyphs_of : List Component → List ℕ → (ℕ → ℕ) → List LabelledGlyph
glyphs_of cs kinds labels =
    map (λ k. record { component = get_or cs k no_dots; label = labels k }) (keep (λ k. eqb (get_or kinds k 0) glyph_kind) (upto (length cs)))

-- the word of a component: its kind, and of a glyph 8 × its label besides
unfoldable pub kind_word : ℕ → ℕ → ℕ
kind_word kind label = cond (eqb kind glyph_kind) (glyph_kind + 8 * label) kind

-- the number of the first smoothed run of component k
abbrev pub first_number : List ℕ → ℕ → ℕ → ℕ → ℕ
first_number s firsts numbers k = get_or s (numbers + get_or s (firsts + k) 0) 0

-- kinds of `count` components, behind them the first smoothed run of each, before them the numbers of the smoothed runs
pub record LabelRoom (kinds count firsts numbers : ℕ) (s : List ℕ) : Type 0 where
  pub behind : kinds + count ≤ firsts
  pub room : firsts + count ≤ length s
  pub runs : (k : ℕ) → k < count → get_or s (kinds + k) 0 ≡ glyph_kind → numbers + get_or s (firsts + k) 0 < kinds
  pub few : (k : ℕ) → k < count → get_or s (kinds + k) 0 ≡ glyph_kind → first_number s firsts numbers k ≤ max_capacity

-- the label of component k, 0 where it is no glyph
abbrev pub label_at : List ℕ → ℕ → ℕ → ℕ
label_at s kinds k = get_or s (kinds + k) 0 / 8

-- the labels of `count` components
abbrev pub labels_at : List ℕ → ℕ → ℕ → List ℕ
labels_at s kinds count = table (label_at s kinds) count

-- labelled kinds of `count` components, and behind them a word for each of so many smoothed components
pub record CountRoom (kinds count glyphs smears : ℕ) (s : List ℕ) : Type 0 where
  pub behind : kinds + count ≤ glyphs
  pub room : glyphs + smears ≤ length s
  pub few : count ≤ max_capacity
  pub labels : (k : ℕ) → k < count → label_at s kinds k ≤ smears

-- whether smoothed component t is a line
abbrev pub smear_is_line : LayoutParams → Float → List ℕ → ℕ → ℕ → ℕ → Bool
smear_is_line p unit s smoothed glyphs t = is_line p unit (get_or s (glyphs + t) 0) (height (size_box s smoothed t))

-- y0, x0, y1, x1 of a box, and a label: `line_keys`
abbrev pub box_keys : Rect → ℕ → List ℕ
box_keys r t = r.y0 ∷ r.x0 ∷ r.y1 ∷ r.x1 ∷ suc t ∷ []

-- the order of lines, of smoothed components a and b
unfoldable pub smear_at_most : List ℕ → ℕ → ℕ → ℕ → Bool
smear_at_most s smoothed a b = keys_at_most (box_keys (size_box s smoothed a) a) (box_keys (size_box s smoothed b) b)

-- the lines among the first so many smoothed components, in order
unfoldable pub line_smears : LayoutParams → Float → List ℕ → ℕ → ℕ → ℕ → List ℕ
line_smears p unit s smoothed glyphs smears = sort_by (smear_at_most s smoothed) (keep (smear_is_line p unit s smoothed glyphs) (upto smears))

-- sizes of so many smoothed components, behind them their counts of glyphs
pub record SmearRoom (smoothed glyphs smears : ℕ) (s : List ℕ) : Type 0 where
  pub behind : smoothed + smears * 5 ≤ glyphs
  pub room : glyphs + smears ≤ length s
  pub few : smears ≤ max_capacity
  pub tops : (t : ℕ) → t < smears → (size_box s smoothed t).y0 ≤ (size_box s smoothed t).y1
  pub bottoms : (t : ℕ) → t < smears → (size_box s smoothed t).y1 + 1 ≤ 4294967295

-- before them a word for the label of each line
pub record OrderRoom (order smoothed glyphs smears : ℕ) (s : List ℕ) : Type 0 where
  pub before : order + smears ≤ smoothed
  pub smears_room : SmearRoom smoothed glyphs smears s

-- the smoothed component whose label stands at place i
abbrev pub ordered_smear : List ℕ → ℕ → ℕ → ℕ
ordered_smear s order i = get_or s (order + i) 0 - 1

-- the labels of n ordered lines, and smoothed component t
pub record PlaceRoom (smoothed order n t : ℕ) (s : List ℕ) : Type 0 where
  pub room : order + n < length s
  pub labels : (i : ℕ) → i < n → 0 < get_or s (order + i) 0
  pub sizes : (i : ℕ) → i < n → smoothed + ordered_smear s order i * 5 + 5 ≤ length s
  pub own : smoothed + t * 5 + 5 ≤ length s
  pub few : t < 4294967295

-- r is where t belongs among n that are in order: not before the one at r - 1, before the one at r
pub record PlaceOf (precedes : ℕ → ℕ → Bool) (at : ℕ → ℕ) (t n r : ℕ) : Type 0 where
  pub low : r ≤ n
  pub last : (j : ℕ) → suc j ≡ r → precedes t (at j) ≡ false
  pub next : r < n → precedes t (at r) ≡ true

-- the words from place `place` on, before place n, have moved up by one
pub record Shifted (order place n : ℕ) (s s' : List ℕ) : Type 0 where
  pub len : length s' ≡ length s
  pub same : (i : ℕ) → i ≤ order + place → get_or s' i 0 ≡ get_or s i 0
  pub moved : (k : ℕ) → place ≤ k → k < n → get_or s' (order + (k + 1)) 0 ≡ get_or s (order + k) 0
  pub behind : (i : ℕ) → order + n < i → get_or s' i 0 ≡ get_or s i 0

-- the label of t stands in its place among the n + 1
pub record InsertedSmear (smoothed order n t place : ℕ) (s s' : List ℕ) : Type 0 where
  pub place_of : PlaceOf (smear_at_most s smoothed) (ordered_smear s order) t n place
  pub len : length s' ≡ length s
  pub before : (i : ℕ) → i < order + place → get_or s' i 0 ≡ get_or s i 0
  pub own : get_or s' (order + place) 0 ≡ t + 1
  pub moved : (k : ℕ) → place ≤ k → k < n → get_or s' (order + (k + 1)) 0 ≡ get_or s (order + k) 0
  pub behind : (i : ℕ) → order + n < i → get_or s' i 0 ≡ get_or s i 0

-- the labels of the lines, in order, from word `order` on
pub record OrderedLines (ls : List ℕ) (order : ℕ) (s s' : List ℕ) (r : ℕ) : Type 0 where
  pub count : r ≡ length ls
  pub words : Stored (λ i. suc (get_or ls i 0)) order r s s'

-- the labels of n lines, each at most `smears`, and behind them a word for each label
pub record NumberRoom (order n numbers smears : ℕ) (s : List ℕ) : Type 0 where
  pub behind : order + n ≤ numbers
  pub room : numbers + smears ≤ length s
  pub few : n ≤ max_lines
  pub labels : (i : ℕ) → i < n → 0 < get_or s (order + i) 0
  pub low : (i : ℕ) → i < n → get_or s (order + i) 0 ≤ smears

-- the labels of n lines in their order
abbrev pub order_at : List ℕ → ℕ → ℕ → List ℕ
order_at s order n = table (λ i. get_or s (order + i) 0) n

-- the area of component k
abbrev pub area_at : List ℕ → ℕ → ℕ → ℕ
area_at s sizes k = get_or s (sizes + k * 5) 0

-- the glyphs among the first so many components: those with a label
abbrev pub glyphs_among : List ℕ → ℕ → ℕ → List ℕ
glyphs_among s kinds count = keep (λ k. ltb 0 (label_at s kinds k)) (upto count)

-- the record of a glyph: box, area, line
abbrev pub glyph_fields : Rect → ℕ → ℕ → List ℕ
glyph_fields r area line = r.x0 ∷ r.y0 ∷ r.x1 ∷ r.y1 ∷ area ∷ line ∷ []

-- the record of glyph k, its line by the number of its label
abbrev pub glyph_record_at : List ℕ → ℕ → ℕ → ℕ → ℕ → List ℕ
glyph_record_at s sizes kinds numbers k = glyph_fields (size_box s sizes k) (area_at s sizes k) (get_or s (numbers + (label_at s kinds k - 1)) 0)

-- sizes and labelled kinds of so many components, the number of each label, and room for their records
pub record GlyphRoom (sizes kinds count numbers : ℕ) (s : List ℕ) (out : ℕ) : Type 0 where
  pub sizes_room : sizes + count * 5 ≤ length s
  pub kinds_room : kinds + count ≤ length s
  pub lines : (k : ℕ) → k < count → 0 < label_at s kinds k → numbers + label_at s kinds k ≤ length s
  pub room : count * 6 ≤ out

-- a component becomes record n if it has a label
pub record WrittenGlyph (label : ℕ) (fields : List ℕ) (n : ℕ) (out out' : List ℕ) (r : ℕ) : Type 0 where
  pub none_count : label ≡ 0 → r ≡ n
  pub none_words : label ≡ 0 → out' ≡ out
  pub some_count : 0 < label → r ≡ n + 1
  pub some_words : 0 < label → out' ≡ sets out (n * 6) fields

-- the records of the glyphs among the first so many components, over the front
pub record WrittenGlyphs (sizes kinds count numbers : ℕ) (s out out' : List ℕ) (r : ℕ) : Type 0 where
  pub count_is : r ≡ length (glyphs_among s kinds count)
  pub words : out' ≡ over (encoded (glyph_record_at s sizes kinds numbers) (glyphs_among s kinds count)) out

-- the components with the label t
abbrev pub own_glyphs : List ℕ → ℕ → ℕ → ℕ → List ℕ
own_glyphs s kinds count t = keep (λ k. eqb (label_at s kinds k) t) (upto count)

-- their ink
abbrev pub own_ink : List ℕ → ℕ → ℕ → ℕ → ℕ → ℕ
own_ink s sizes kinds count t = total (map (area_at s sizes) (own_glyphs s kinds count t))

-- their heights
abbrev pub own_heights : List ℕ → ℕ → ℕ → ℕ → ℕ → List ℕ
own_heights s sizes kinds count t = map (λ k. height (size_box s sizes k)) (own_glyphs s kinds count t)

-- the record of a line: box, glyphs, ink, glyph height, and 0 for its block
abbrev pub line_fields : Rect → ℕ → ℕ → ℕ → List ℕ
line_fields r glyphs ink high = r.x0 ∷ r.y0 ∷ r.x1 ∷ r.y1 ∷ glyphs ∷ ink ∷ high ∷ 0 ∷ []

-- the record of the line that smoothed component t is
abbrev pub line_record_at : List ℕ → ℕ → ℕ → ℕ → ℕ → ℕ → ℕ → List ℕ
line_record_at s smoothed glyphs sizes kinds count t =
    line_fields (size_box s smoothed t) (get_or s (glyphs + t) 0) (own_ink s sizes kinds count (suc t)) (median (own_heights s sizes kinds count (suc t)))

-- line i with 0 for its block, as it is written before the blocks are known
abbrev pub plain_line : List SmoothedLine → ℕ → TextLine
plain_line ls i =
    let l = get_or ls i no_smoothed_line in
    record { bbox = l.bbox; glyphs = l.glyphs; ink_area = l.ink_area; glyph_height = l.glyph_height; block = 0 }

-- the words from `at` on are as they were
pub record KeptFrom (at : ℕ) (s s' : List ℕ) : Type 0 where
  pub len : length s' ≡ length s
  pub same : (i : ℕ) → at ≤ i → get_or s' i 0 ≡ get_or s i 0

-- scratch holds these components, their kinds, and the label of each glyph among them
pub record HoldsGlyphs (cs : List Component) (ks : List ℕ) (labels : ℕ → ℕ) (sizes kinds : ℕ) (s : List ℕ) : Type 0 where
  pub held : HoldsSizes cs s sizes
  pub words : (k : ℕ) → k < length cs → get_or s (kinds + k) 0 ≡ kind_word (get_or ks k 0) (labels k)
  pub known : (k : ℕ) → k < length cs → get_or ks k 0 < 8
  pub labelled : (k : ℕ) → k < length cs → get_or ks k 0 ≡ glyph_kind → 0 < labels k

-- how many of these glyphs have the label t
abbrev pub glyph_count : List LabelledGlyph → ℕ → ℕ
glyph_count gs t = length (keep (λ (g : LabelledGlyph). eqb g.label t) gs)

-- scratch holds these smoothed components, and how many of the glyphs each has
pub record HoldsSmears (gs : List LabelledGlyph) (smears : List Component) (smoothed glyphs : ℕ) (s : List ℕ) : Type 0 where
  pub held : HoldsSizes smears s smoothed
  pub counts : (t : ℕ) → t < length smears → get_or s (glyphs + t) 0 ≡ glyph_count gs (suc t)
