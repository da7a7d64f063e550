-- The lists of a segmentation in their places: what each stage of writing them asks and leaves.
use mathlib.Core.Path.{◌≡◌, refl, sym, ap, ◌∙◌, subst}
use mathlib.Core.List.{List, ◌++◌}
use Prim.Native.Nat.{ℕ, ◌+◌, ◌-◌, ◌*◌, ◌≤◌, ◌<◌}
use native.Mathlib.Decide.{dec_lt}
use native.Mathlib.Omega.{arith}
use lib.Ieee.{Float}
use lib.ListN.{get_or, length, take, drop, length-drop}
use lib.Seq.{take_at, drop_at, length-take-le}
use borrow.Rule.Slice.PartMut.{put_mid}
use Rattle.memory.specs.rules.Lists.{table}
use Rattle.memory.specs.rules.Records.{encoded}
use Rattle.memory.specs.rules.Words.{over, put_at}
use Rattle.memory.proofs.PartLaws.{tail-part, tail-put}
use Rattle.memory.proofs.RecordLaws.{length-encoded}
use Rattle.memory.proofs.TableLaws.{length-table, get_or-table, table-ext}
use Rattle.memory.specs.declared.rect.Rect.{Rect}
use Rattle.params.specs.declared.LayoutParams.{LayoutParams}
use Rattle.sorting.specs.stages.Scratch.{horizontal_at, vertical_at, sizes_at, kinds_at}
use Rattle.grouping.specs.rules.Blocks.{no_rect, block_firsts, block_number, blocks_of}
use Rattle.grouping.specs.rules.Columns.{columns_of}
use Rattle.smoothing.specs.rules.Lines.{TextLine, SmoothedLine}
use Rattle.segmenting.specs.rules.Layouts.{text_line}
use Rattle.grouping.specs.stages.Numbering.{with_blocks}
use Rattle.memory.specs.rules.Rects.{box_words}
use Rattle.segmenting.specs.rules.Results.{rules_at, graphics_at, lines_at, blocks_at}
use Rattle.segmenting.specs.stages.Places.{result_places, Placed}
use Rattle.smoothing.specs.stages.LineWords.{plain_line}
use Rattle.segmenting.specs.stages.Writing.{rules_read, graphics_read, BoxRoom, plain_records, boxes_of_lines, GroupRoom, groups_left}
use Rattle.memory.specs.stages.Boxes.{Inside}
use Rattle.grouping.specs.stages.LineBoxes.{Lines, ByTop, Groupable, line_boxes}
use Rattle.grouping.specs.rules.HeldLines.{line_box}
use Rattle.smoothing.specs.rules.LineRecords.{line_record}
use Rattle.grouping.specs.rules.BlockRecords.{block_record, column_record}
use Rattle.memory.proofs.ListLaws.{get_or-mapped}
use Rattle.segmenting.proofs.BoxLaws.{length-boxes, boxes-few, rules-few}
use Rattle.segmenting.proofs.BlockedLines.{blocks-set, text-lines, record-boxes}
use Rattle.smoothing.proofs.LineRecords.{plain-boxes}
use Rattle.segmenting.proofs.PutLaws.{part_length, put-part, put-long, put-before, put-behind, over-put}

-- Where the lists stand

pub placed : (w P : ℕ) → Placed (result_places w P) w P
placed w P = record { columns_is = refl; rules_is = refl; graphics_is = refl; glyphs_is = refl; lines_is = refl; blocks_is = refl }

-- Rules and graphics

module _ (w dots P hn vn n : ℕ) (s results : List ℕ) (R : BoxRoom w dots P hn vn n (length s) (length results)) where
  few-rules : length (rules_read s dots P hn vn n) ≤ 3 * P
  few-rules =
      let a = rules-few s (horizontal_at dots) hn (vertical_at dots P) vn (sizes_at dots P) (kinds_at dots P) n in
      let b = R.cuts in
      let d = R.few in
      omega arith

  -- what the rules ask
  pub rules-fit : length (rules_read s dots P hn vn n) * 4 ≤ length (take (length results - rules_at w) (drop (rules_at w) results))
  rules-fit = let a = few-rules in let b = part_length (rules_at w) results in let d = R.results_room in omega arith

  module _ (one : List ℕ) (e : one ≡ over (encoded box_words (rules_read s dots P hn vn n)) (take (length results - rules_at w) (drop (rules_at w) results))) where
    rules-put : put_mid (rules_at w) (length results - rules_at w) results one ≡ put_at (rules_at w) (encoded box_words (rules_read s dots P hn vn n)) results
    rules-put = put-part (rules_at w) results (encoded box_words (rules_read s dots P hn vn n)) one e

    pub rules-long : length (put_mid (rules_at w) (length results - rules_at w) results one) ≡ length results
    rules-long =
        ap length rules-put
        ∙ put-long (rules_at w) (encoded box_words (rules_read s dots P hn vn n)) results
        (let a = few-rules in let b = length-boxes (rules_read s dots P hn vn n) in let d = R.results_room in omega arith)

    -- what the graphics ask
    pub graphics-fit : (put : List ℕ) → put ≡ put_mid (rules_at w) (length results - rules_at w) results one
        → length (graphics_read s dots P n) * 4 ≤ length (take (length put - graphics_at w P) (drop (graphics_at w P) put))
    graphics-fit put q =
        let a = boxes-few s (kinds_at dots P) 3 (sizes_at dots P) n in
        let b = part_length (graphics_at w P) put in
        let d = R.results_room in
        let f = R.few in
        let g = ap length q ∙ rules-long in
        omega arith

    module _ (put two : List ℕ) (q : put ≡ put_mid (rules_at w) (length results - rules_at w) results one)
        (f : two ≡ over (encoded box_words (graphics_read s dots P n)) (take (length put - graphics_at w P) (drop (graphics_at w P) put))) where
      pub graphics-put : put_mid (graphics_at w P) (length put - graphics_at w P) put two
          ≡ put_at (graphics_at w P) (encoded box_words (graphics_read s dots P n)) (put_at (rules_at w) (encoded box_words (rules_read s dots P hn vn n)) results)
      graphics-put =
          put-part (graphics_at w P) put (encoded box_words (graphics_read s dots P n)) two f
          ∙ ap (put_at (graphics_at w P) (encoded box_words (graphics_read s dots P n))) (q ∙ rules-put)

      pub graphics-long : length (put_mid (graphics_at w P) (length put - graphics_at w P) put two) ≡ length results
      graphics-long =
          ap length (put-part (graphics_at w P) put (encoded box_words (graphics_read s dots P n)) two f)
          ∙ (put-long (graphics_at w P) (encoded box_words (graphics_read s dots P n)) put
          (let a = boxes-few s (kinds_at dots P) 3 (sizes_at dots P) n in
          let b = length-boxes (graphics_read s dots P n) in
          let d = R.results_room in
          let g = R.few in
          let h = ap length q ∙ rules-long in
          omega arith)
          ∙ (ap length q ∙ rules-long))

-- Blocks and columns

no_line_yet : SmoothedLine
no_line_yet = record { bbox = no_rect; glyphs = 0; ink_area = 0; glyph_height = 0; label = 0 }

-- the boxes of lines that stand before other words
pub lines-boxes : (ls : List SmoothedLine) (g : ℕ → TextLine) → ((i : ℕ) → (g i).bbox ≡ (plain_line ls i).bbox) → (n : ℕ) → n ≡ length ls → (rest : List ℕ)
    → line_boxes (encoded line_record (table g (length ls)) ++ rest) n ≡ boxes_of_lines ls
lines-boxes ls g same n e rest =
    ap (line_boxes (encoded line_record (table g (length ls)) ++ rest)) e
    ∙ (record-boxes g (length ls) rest ∙ (table-ext (λ i. (g i).bbox) (λ i. (plain_line ls i).bbox) (length ls) (λ i l. same i) ∙ plain-boxes ls))

lines-words : (ls : List SmoothedLine) (g : ℕ → TextLine) → length (encoded line_record (table g (length ls))) ≡ length ls * 8
lines-words ls g = length-encoded line_record 8 (λ t. refl) (table g (length ls)) ∙ ap (λ k. k * 8) (length-table g (length ls))

module _ {w h P : ℕ} {ls : List SmoothedLine} {before results : List ℕ} {n scratch : ℕ} (G : GroupRoom w h P ls before results n scratch) where
  -- words whose lines have these boxes
  module _ (s : List ℕ) (b : line_boxes s n ≡ boxes_of_lines ls) (long : length s ≡ length results - lines_at w P) where
    box-at : (i : ℕ) → i < n → line_box s i ≡ (get_or ls i no_line_yet).bbox
    box-at i l =
        sym (get_or-table (line_box s) n i no_rect l)
        ∙ (ap (λ (z : List Rect). get_or z i no_rect) b ∙ get_or-mapped (λ (x : SmoothedLine). x.bbox) ls i no_rect no_line_yet (let e = G.count in omega arith))

    pub lines-inside : Lines w h n s
    lines-inside =
        record {
          room = let e = G.count in let f = G.few in let r = G.room in omega arith;
          boxes = λ i l. subst (Inside w h) (sym (box-at i l)) (G.boxes i no_line_yet (let e = G.count in omega arith));
        }

    lines-by-top : ByTop n s
    lines-by-top i j l m = go (dec_lt i j)
      where
        go : Dec (i < j) → (line_box s i).y0 ≤ (line_box s j).y0
        go (yes q) =
            let a = ap (λ (r : Rect). r.y0) (box-at i (omega arith)) in
            let b = ap (λ (r : Rect). r.y0) (box-at j m) in
            let t = G.by_top i j no_line_yet q (let e = G.count in omega arith) in
            omega arith
        go (no q) = let a = ap (λ k. (line_box s k).y0) (let e : i ≡ j = omega arith in e) in omega arith

    pub groupable : Groupable n h s scratch
    groupable =
        record {
          w = w;
          lines = lines-inside;
          narrow = let a = G.narrow in omega arith;
          low = let a = G.low in omega arith;
          few = let e = G.count in let f = G.few in let a = G.capacity in omega arith;
          by_top = lines-by-top;
          heights = G.heights;
          parents = let e = G.count in let f = G.few in let a = G.parents in omega arith;
        }

  at_most : lines_at w P ≤ length before
  at_most = let a = G.room in let b = G.long in omega arith

  -- the lines as they stand
  part-is : take (length results - lines_at w P) (drop (lines_at w P) results) ≡ over (plain_records ls) (drop (lines_at w P) before)
  part-is =
      tail-part (lines_at w P) results
      ∙ (ap (drop (lines_at w P)) G.held
      ∙ drop_at (take (lines_at w P) before) (over (plain_records ls) (drop (lines_at w P) before)) (lines_at w P) (length-take-le (lines_at w P) before at_most))

  part-boxes : line_boxes (take (length results - lines_at w P) (drop (lines_at w P) results)) n ≡ boxes_of_lines ls
  part-boxes =
      ap (λ (z : List ℕ). line_boxes z n) part-is
      ∙ lines-boxes ls (plain_line ls) (λ i. refl) n G.count (drop (length (plain_records ls)) (drop (lines_at w P) before))

  -- what the blocks ask
  pub blocks-ask : Groupable n h (take (length results - lines_at w P) (drop (lines_at w P) results)) scratch
  blocks-ask = groupable (take (length results - lines_at w P) (drop (lines_at w P) results)) part-boxes (part_length (lines_at w P) results)

  module _ (p : LayoutParams) (unit : Float) where
    firsts : List ℕ
    firsts = block_firsts p (boxes_of_lines ls)

    grouped : List ℕ
    grouped = encoded line_record (table (text_line ls (block_firsts p (boxes_of_lines ls))) (length ls))

    records : List ℕ
    records = encoded block_record (blocks_of (boxes_of_lines ls) (block_firsts p (boxes_of_lines ls)))

    lines-grouped : (rest : List ℕ) → with_blocks (block_number firsts) n (plain_records ls ++ rest) ≡ grouped ++ rest
    unfolding firsts grouped
    lines-grouped rest =
        ap (λ k. with_blocks (block_number (block_firsts p (boxes_of_lines ls))) k (plain_records ls ++ rest)) G.count
        ∙ (blocks-set (plain_line ls) (block_number (block_firsts p (boxes_of_lines ls))) (length ls) rest
        ∙ ap (λ (z : List TextLine). encoded line_record z ++ rest) (text-lines ls (block_firsts p (boxes_of_lines ls)) (length ls)))

    as_long : length (plain_records ls) ≡ length grouped
    unfolding grouped
    as_long = lines-words ls (plain_line ls) ∙ sym (lines-words ls (text_line ls (block_firsts p (boxes_of_lines ls))))

    -- the lines and blocks that are left, from the place of the lines on
    behind : List ℕ
    behind = over grouped (put_at (8 * P) records (drop (lines_at w P) before))

    part_left : with_blocks (block_number firsts) n (put_at (8 * P) records (over (plain_records ls) (drop (lines_at w P) before))) ≡ behind
    unfolding behind
    part_left =
        let rest = drop (lines_at w P) before in
        let a = lines-words ls (plain_line ls) in
        let b = G.few in
        let r = G.room in
        let q = G.long in
        let t = length-drop (lines_at w P) before in
        ap (with_blocks (block_number firsts) n) (over-put (plain_records ls) records rest (8 * P) (omega arith) (omega arith))
        ∙ (lines-grouped (drop (length (plain_records ls)) (put_at (8 * P) records rest))
        ∙ ap (λ k. grouped ++ drop k (put_at (8 * P) records rest)) as_long)

    behind-boxes : (rest : List ℕ) → line_boxes (grouped ++ rest) n ≡ boxes_of_lines ls
    unfolding grouped text_line
    behind-boxes rest = lines-boxes ls (text_line ls (block_firsts p (boxes_of_lines ls))) (λ i. refl) n G.count rest

    left_is : take (lines_at w P) results ++ behind ≡ put_at (lines_at w P) grouped (put_at (blocks_at w P) records before)
    unfolding behind
    left_is =
        let e : blocks_at w P ≡ lines_at w P + 8 * P = omega arith in
        let at = lines_at w P in
        let front : take at results ≡ take at before = ap (take at) G.held ∙ take_at (take at before) (over (plain_records ls) (drop at before)) at (length-take-le at before at_most) in
        ap (λ (z : List ℕ). z ++ over grouped (put_at (8 * P) records (drop at before))) front
        ∙ sym
        (ap (λ k. put_at at grouped (put_at k records before)) e
        ∙ (λ i. put-before at (8 * P) records before at_most i ++ over grouped (put-behind at (8 * P) records before at_most i)))

    -- what `blocks` leaves
    module _ (part : List ℕ) (found : ℕ)
        (f : found ≡ length (blocks_of (line_boxes (take (length results - lines_at w P) (drop (lines_at w P) results)) n) (block_firsts p (line_boxes (take (length results - lines_at w P) (drop (lines_at w P) results)) n))))
        (e : part ≡ with_blocks (block_number (block_firsts p (line_boxes (take (length results - lines_at w P) (drop (lines_at w P) results)) n))) n
        (put_at (8 * P) (encoded block_record (blocks_of (line_boxes (take (length results - lines_at w P) (drop (lines_at w P) results)) n) (block_firsts p (line_boxes (take (length results - lines_at w P) (drop (lines_at w P) results)) n)))) (take (length results - lines_at w P) (drop (lines_at w P) results)))) where
      pub found-is : found ≡ length (blocks_of (boxes_of_lines ls) (block_firsts p (boxes_of_lines ls)))
      found-is = f ∙ ap (λ (z : List Rect). length (blocks_of z (block_firsts p z))) part-boxes

      blocks-left : part ≡ behind
      unfolding firsts records
      blocks-left =
          e
          ∙ ((λ i. with_blocks (block_number (block_firsts p (part-boxes i))) n (put_at (8 * P) (encoded block_record (blocks_of (part-boxes i) (block_firsts p (part-boxes i)))) (part-is i)))
          ∙ part_left)

      module _ (put : List ℕ) (q : put ≡ put_mid (lines_at w P) (length results - lines_at w P) results part) (long : length put ≡ length results) where
        put_is : put ≡ take (lines_at w P) results ++ behind
        put_is = q ∙ (tail-put (lines_at w P) results part ∙ ap (λ (z : List ℕ). take (lines_at w P) results ++ z) blocks-left)

        rest-is : drop (lines_at w P) put ≡ behind
        rest-is =
            ap (drop (lines_at w P)) put_is
            ∙ drop_at (take (lines_at w P) results) behind (lines_at w P) (length-take-le (lines_at w P) results (let a = G.room in omega arith))

        rest-boxes : line_boxes (drop (lines_at w P) put) n ≡ boxes_of_lines ls
        unfolding behind
        rest-boxes = ap (λ (z : List ℕ). line_boxes z n) rest-is ∙ behind-boxes (drop (length grouped) (put_at (8 * P) records (drop (lines_at w P) before)))

        -- what the columns ask
        pub columns-ask : Lines w h n (drop (lines_at w P) put)
        columns-ask = lines-inside (drop (lines_at w P) put) rest-boxes (length-drop (lines_at w P) put ∙ ap (λ k. k - lines_at w P) long)

        -- all that is left
        pub groups-left : (last : List ℕ) (across : ℕ) → across ≡ length (columns_of p unit w (line_boxes (drop (lines_at w P) put) n))
            → last ≡ over (encoded column_record (columns_of p unit w (line_boxes (drop (lines_at w P) put) n))) put
            → (across ≡ length (columns_of p unit w (boxes_of_lines ls))) × (last ≡ groups_left p unit w P ls before)
        unfolding grouped records
        groups-left last across c r = (
          c ∙ ap (λ (z : List Rect). length (columns_of p unit w z)) rest-boxes,
          r
              ∙ ((λ i. over (encoded column_record (columns_of p unit w (rest-boxes i))) (put_is i))
              ∙ ap (over (encoded column_record (columns_of p unit w (boxes_of_lines ls)))) left_is),
        )
