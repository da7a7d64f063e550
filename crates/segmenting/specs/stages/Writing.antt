-- What the stages of writing the results ask and leave: rules and graphics, glyphs and lines, blocks and columns, the figures.
use Rattle.std.specs.Prelude.{◌≡◌, List, map, ℕ, suc, ◌+◌, ◌*◌, ◌≤◌, ◌<◌, Float, get_or, length}
use Rattle.memory.specs.rules.Lists.{table, total}
use Rattle.memory.specs.rules.Limits.{max_frame_width, max_frame_height, max_capacity, max_lines, scratch_words}
use Rattle.memory.specs.rules.Records.{encoded}
use Rattle.memory.specs.rules.Words.{over, put_at}
use Rattle.labelling.specs.rules.Components.{no_dots, box_of}
use Rattle.memory.specs.declared.rect.Rect.{Rect}
use Rattle.labelling.specs.declared.component.Component.{Component}
use Rattle.params.specs.declared.LayoutParams.{LayoutParams}
use Rattle.sorting.specs.rules.Kinds.{graphic_kind}
use Rattle.sorting.specs.stages.Scratch.{horizontal_at, vertical_at, sizes_at, kinds_at, smears_at, glyphs_at, SortRoom, SortedFigures}
use Rattle.sorting.specs.rules.Capacity.{most_components}
use Rattle.sorting.specs.rules.Sorted.{sorted}
use Rattle.sorting.specs.declared.sort.SortCounts.{SortCounts}
use Rattle.sorting.specs.declared.Unit.{Unit}
use Rattle.smoothing.specs.rules.Lines.{LabelledGlyph, SmoothedLine, kept_lines, line_number, glyph_box}
use Rattle.grouping.specs.rules.Blocks.{block_firsts, blocks_of}
use Rattle.grouping.specs.rules.Columns.{columns_of}
use Rattle.segmenting.specs.rules.Layouts.{text_line}
use Rattle.memory.specs.stages.Boxes.{Inside}
use Rattle.smoothing.specs.rules.LineRecords.{line_record, glyph_record}
use Rattle.grouping.specs.rules.BlockRecords.{block_record, column_record}
use Rattle.smoothing.specs.stages.LineWords.{glyphs_of, plain_line, line_smears, ordered_smear, KeptFrom, HoldsGlyphs, HoldsSmears}
use Rattle.memory.specs.rules.Rects.{box_words}
use Rattle.segmenting.specs.rules.Results.{rules_at, graphics_at, glyph_records_at, lines_at, blocks_at, result_words}
use Rattle.segmenting.specs.stages.Held.{held_boxes, held_rules}
use Rattle.smoothing.specs.stages.Segments.{SmearsHeld}
use Rattle.segmenting.specs.declared.results.Segmentation.{Segmentation}
use Rattle.segmenting.specs.declared.results.KindDots.{KindDots}
use Rattle.smoothing.specs.declared.lines.LinePlaces.{LinePlaces}
use Rattle.smoothing.specs.declared.smears.Smears.{Smears}
use Rattle.segmenting.specs.declared.lists.BoxCounts.{BoxCounts}
use Rattle.segmenting.specs.declared.groups.GroupCounts.{GroupCounts}

-- Rules and graphics

-- the rules that scratch holds
abbrev pub rules_read : List ℕ → ℕ → ℕ → ℕ → ℕ → ℕ → List Rect
rules_read s dots P horizontal vertical components =
    held_rules s (horizontal_at dots) horizontal (vertical_at dots P) vertical (sizes_at dots P) (kinds_at dots P) components

-- the graphics
abbrev pub graphics_read : List ℕ → ℕ → ℕ → ℕ → List Rect
graphics_read s dots P components = held_boxes s (sizes_at dots P) (kinds_at dots P) graphic_kind components

-- no more cuts and components than the capacity, and room for the boxes of all
pub record BoxRoom (w dots P horizontal vertical components words results : ℕ) : Type 0 where
  pub cuts : (horizontal ≤ P) × (vertical ≤ P)
  pub few : components ≤ P
  pub room : scratch_words dots P ≤ words
  pub results_room : result_words w P ≤ results

-- rules and graphics stand in their places
pub record BoxesLeft (w dots P horizontal vertical components : ℕ) (s results results' : List ℕ) (rules graphics : ℕ) : Type 0 where
  pub rules_is : rules ≡ length (rules_read s dots P horizontal vertical components)
  pub graphics_is : graphics ≡ length (graphics_read s dots P components)
  pub words : results'
      ≡ put_at (graphics_at w P) (encoded box_words (graphics_read s dots P components)) (put_at (rules_at w) (encoded box_words (rules_read s dots P horizontal vertical components)) results)

-- Glyphs and lines

-- the records of lines without their blocks
abbrev pub plain_records : List SmoothedLine → List ℕ
plain_records ls = encoded line_record (table (plain_line ls) (length ls))

-- scratch holds the components cs of a frame h high, with kinds and labels, and the smoothed components; their lines are few
pub record LinesHeld (p : LayoutParams) (unit : Float) (cs : List Component) (ks : List ℕ) (labels : ℕ → ℕ) (smears : List Component) (w h dots P : ℕ) (s : List ℕ) (results : ℕ) : Type 0 where
  pub glyphs : HoldsGlyphs cs ks labels (sizes_at dots P) (kinds_at dots P) s
  pub smoothed : HoldsSmears (glyphs_of cs ks labels) smears (smears_at dots P) (glyphs_at dots P) s
  pub few : P ≤ max_capacity
  pub few_components : length cs ≤ P
  pub few_smears : length smears ≤ P
  pub few_lines : length (kept_lines p unit (glyphs_of cs ks labels) smears) ≤ max_lines
  pub low : (k : ℕ) → k < length cs → labels k ≤ length smears
  pub boxes : (k : ℕ) → k < length cs → Inside w h (box_of (get_or cs k no_dots))
  pub smear_boxes : (t : ℕ) → t < length smears → Inside w h (box_of (get_or smears t no_dots))
  pub ink : total (map (λ (c : Component). c.area) cs) ≤ 4294967295
  pub heights : h < dots + 64
  pub high : h ≤ max_frame_height
  pub room : scratch_words dots P ≤ length s
  pub results_room : result_words w P ≤ results

-- the labels of the lines stand in order where the boxes of the horizontal cuts stood, the line of each label where those of the vertical cuts stood
pub record LinesOrdered (p : LayoutParams) (unit : Float) (cs : List Component) (ks : List ℕ) (labels : ℕ → ℕ) (smears : List Component) (dots P : ℕ) (s s' : List ℕ) (r : ℕ) : Type 0 where
  pub count : r ≡ length (kept_lines p unit (glyphs_of cs ks labels) smears)
  pub kept : KeptFrom (sizes_at dots P) s s'
  pub few : r ≤ length smears
  pub labelled : (i : ℕ) → i < r → (0 < get_or s' (horizontal_at dots + i) 0) × (get_or s' (horizontal_at dots + i) 0 ≤ length smears)
  pub order : (i : ℕ) → i < r → ordered_smear s' (horizontal_at dots) i ≡ get_or (line_smears p unit s (smears_at dots P) (glyphs_at dots P) (length smears)) i 0
  pub numbers : (t : ℕ) → t < length smears → get_or s' (vertical_at dots P + t) 0 ≡ line_number (kept_lines p unit (glyphs_of cs ks labels) smears) (suc t)

-- where writing the lines finds glyphs and lines in scratch: the lists of glyphs stand behind the order of the lines and behind the line of each label
abbrev pub line_places : ℕ → ℕ → ℕ → ℕ → ℕ → LinePlaces
line_places h dots P components smears =
    record {
      order = horizontal_at dots;
      smoothed = smears_at dots P;
      glyphs = glyphs_at dots P;
      smears = smears;
      sizes = sizes_at dots P;
      kinds = kinds_at dots P;
      count = components;
      heads = horizontal_at dots + P;
      nexts = horizontal_at dots + 3 * P;
      heights = 0;
      values = h + 1;
    }

-- glyphs gs and lines ls stand in their places
abbrev pub lines_left : ℕ → ℕ → List LabelledGlyph → List SmoothedLine → List ℕ → List ℕ
lines_left w P gs ls results =
    put_at (lines_at w P) (plain_records ls) (put_at (glyph_records_at w P) (encoded glyph_record (map (glyph_box ls) gs)) results)

-- Blocks and columns

-- the boxes of lines
abbrev pub boxes_of_lines : List SmoothedLine → List Rect
boxes_of_lines ls = map (λ (l : SmoothedLine). l.bbox) ls

-- lines of a frame, by y0, stand in the results without their blocks, and scratch has words enough for grouping them
pub record GroupRoom (w h P : ℕ) (ls : List SmoothedLine) (before results : List ℕ) (lines scratch : ℕ) : Type 0 where
  pub held : results ≡ put_at (lines_at w P) (plain_records ls) before
  pub long : length results ≡ length before
  pub count : lines ≡ length ls
  pub few : length ls ≤ P
  pub capacity : P ≤ max_capacity
  pub narrow : w ≤ max_frame_width
  pub low : h ≤ max_frame_height
  pub boxes : (i : ℕ) (d : SmoothedLine) → i < length ls → Inside w h (get_or ls i d).bbox
  pub by_top : (i j : ℕ) (d : SmoothedLine) → i < j → j < length ls → (get_or ls i d).bbox.y0 ≤ (get_or ls j d).bbox.y0
  pub room : result_words w P ≤ length results
  pub heights : h + 1 ≤ scratch
  pub parents : P ≤ scratch
  pub across : 2 * w ≤ scratch

-- the lines with their blocks, the blocks and the columns stand in their places
abbrev pub groups_left : LayoutParams → Float → ℕ → ℕ → List SmoothedLine → List ℕ → List ℕ
groups_left p unit w P ls before =
    over (encoded column_record (columns_of p unit w (boxes_of_lines ls)))
    (put_at (lines_at w P) (encoded line_record (table (text_line ls (block_firsts p (boxes_of_lines ls))) (length ls)))
    (put_at (blocks_at w P) (encoded block_record (blocks_of (boxes_of_lines ls) (block_firsts p (boxes_of_lines ls)))) before))

-- The whole

-- what is told of a layout besides its lists (`figures_of`), from what the stages of writing the results count
abbrev pub counted_figures : Unit → ℕ → KindDots → BoxCounts → ℕ → ℕ → GroupCounts → Segmentation
counted_figures unit ink dots boxes glyphs lines groups =
    record {
      unit = unit;
      rules = boxes.rules;
      graphics = boxes.graphics;
      glyphs = glyphs;
      lines = lines;
      blocks = groups.blocks;
      columns = groups.columns;
      ink = ink;
      cut = dots.cut;
      rule = dots.rule;
      graphic = dots.graphic;
      glyph = dots.glyph;
      speck = dots.speck;
    }

-- an ink plane, scratch that holds its page, the figures of both, and room for the results
pub record ResultsRoom (p : LayoutParams) (w h : ℕ) (m : List ℕ) (P : ℕ) (s : List ℕ) (found : SortCounts) (smears : Smears) (results : ℕ) : Type 0 where
  pub plane : SortRoom p w h m P s
  pub few : most_components (sorted p w h m) ≤ P
  pub figures : SortedFigures p w h m found.unit found.ink found.horizontal found.vertical found.component_count
  pub held : SmearsHeld p w h m P s found.runs smears
  pub results_room : result_words w P ≤ results
