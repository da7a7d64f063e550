-- Glyphs and lines of a page in scratch: what ordering and writing them asks and leaves.
use mathlib.Core.Path.{◌≡◌, sym, ap, ◌∙◌, subst}
use mathlib.Core.Bool.{Bool, true, false, cond}
use mathlib.Core.List.{List, map}
use Prim.Native.Nat.{ℕ, suc, ◌+◌, ◌-◌, ◌*◌, ◌≤◌, ◌<◌}
use native.Mathlib.Omega.{arith}
use lib.Dec.{eqb}
use lib.Ieee.{Float}
use lib.ListN
use lib.ListN.{get_or, length, take, drop, length-map}
use Rattle.memory.specs.rules.Lists.{table, upto, total, index_from}
use Rattle.memory.specs.rules.Limits.{no_line, max_frame_width}
use Rattle.memory.specs.rules.Records.{encoded}
use Rattle.memory.specs.rules.Words.{put_at}
use Rattle.labelling.specs.rules.Components.{no_dots, box_of}
use Rattle.labelling.specs.declared.component.Component.{Component}
use Rattle.params.specs.declared.LayoutParams.{LayoutParams}
use Rattle.sorting.specs.rules.Kinds.{glyph_kind}
use Rattle.sorting.specs.stages.Scratch.{horizontal_at, vertical_at, sizes_at, kinds_at, smears_at, glyphs_at}
use Rattle.smoothing.specs.rules.Lines.{glyph_box, SmoothedLine, smoothed_line, kept_lines}
use Rattle.memory.specs.stages.Stored.{Stored}
use Rattle.sorting.specs.stages.Measures.{size_box}
use Rattle.sorting.proofs.SizedLaws.{size-box}
use Rattle.smoothing.specs.stages.LineWords.{plain_line, glyphs_of, label_at, line_smears, OrderRoom, ordered_smear, OrderedLines, NumberRoom, order_at, glyphs_among, glyph_record_at, GlyphRoom, line_record_at, HoldsGlyphs, HoldsSmears}
use Rattle.smoothing.specs.stages.GlyphLists.{LinesRoom}
use Rattle.segmenting.specs.rules.Results.{lines_at}
use Rattle.segmenting.specs.stages.Writing.{plain_records, LinesHeld, LinesOrdered, line_places, GroupRoom}
use Rattle.memory.specs.stages.Boxes.{Inside}
use Rattle.smoothing.specs.rules.LineRecords.{line_record, glyph_record}
use Rattle.smoothing.proofs.LineLaws.{label_of, glyph_of, glyphs-are, line_of, lines_are, labels-are, order_is, numbers-are}
use Rattle.smoothing.proofs.LineRecords.{glyph-records, line-records}
use Rattle.smoothing.proofs.LineRooms.{areas-are, glyphs-kept, smears-kept, smears-counted, order-labels, order-smears}
use Rattle.smoothing.proofs.SmearLaws.{smears-few, smears-low}
use Rattle.memory.proofs.ListLaws.{get_or-mapped, each_at}
use Rattle.smoothing.proofs.Theorems.{lines-go-by-top}

module _ {p : LayoutParams} {unit : Float} {cs : List Component} {ks : List ℕ} {labels : ℕ → ℕ} {smears : List Component} {w h dots P : ℕ} {s : List ℕ} {out : ℕ}
    (H : LinesHeld p unit cs ks labels smears w h dots P s out) where
  smear-box : (t : ℕ) → t < length smears → Inside w h (size_box s (smears_at dots P) t)
  smear-box t l = subst (Inside w h) (sym (size-box smears s (smears_at dots P) H.smoothed.held t l)) (H.smear_boxes t l)

  -- what ordering the lines asks
  pub order-ask : OrderRoom (horizontal_at dots) (smears_at dots P) (glyphs_at dots P) (length smears) s
  order-ask =
      let a = H.few_smears in
      let b = H.room in
      record {
        before = omega arith;
        smears_room = record {
          behind = omega arith;
          room = omega arith;
          few = let d = H.few in omega arith;
          tops = λ t l. (smear-box t l).rows;
          bottoms = λ t l. let d = (smear-box t l).bottom in let e = H.high in omega arith;
        };
      }

  module _ {s₁ : List ℕ} {r : ℕ} (O : OrderedLines (line_smears p unit s (smears_at dots P) (glyphs_at dots P) (length smears)) (horizontal_at dots) s s₁ r) where
    few-ordered : r ≤ length smears
    few-ordered = let a = O.count in let b = smears-few p unit s (smears_at dots P) (glyphs_at dots P) (length smears) in omega arith

    order_room : horizontal_at dots + r ≤ length s₁
    order_room = let a = few-ordered in let b = H.few_smears in let d = H.room in let e = O.words.within.len in omega arith

    labels-in-order : take r (drop (horizontal_at dots) s₁) ≡ map (λ (l : SmoothedLine). l.label) (kept_lines p unit (glyphs_of cs ks labels) smears)
    labels-in-order = order_is p unit (glyphs_of cs ks labels) smears (smears_at dots P) (glyphs_at dots P) s H.smoothed (horizontal_at dots) s₁ r order_room O

    ordered-count : r ≡ length (kept_lines p unit (glyphs_of cs ks labels) smears)
    ordered-count =
        O.count
        ∙ (sym (length-map (line_smears p unit s (smears_at dots P) (glyphs_at dots P) (length smears)) suc)
        ∙ (sym (ap length (labels-are p unit (glyphs_of cs ks labels) smears (smears_at dots P) (glyphs_at dots P) s H.smoothed))
        ∙ length-map (kept_lines p unit (glyphs_of cs ks labels) smears) (λ (l : SmoothedLine). l.label)))

    -- what numbering them asks
    pub number-ask : NumberRoom (horizontal_at dots) r (vertical_at dots P) (length smears) s₁
    number-ask =
        let a = few-ordered in
        let b = H.few_smears in
        let d = H.room in
        let e = O.words.within.len in
        record {
          behind = omega arith;
          room = omega arith;
          few = let f = H.few_lines in let g = ordered-count in omega arith;
          labels = λ i l. (order-labels p unit (smears_at dots P) (glyphs_at dots P) (length smears) (horizontal_at dots) r s s₁ O i l).0;
          low = λ i l. (order-labels p unit (smears_at dots P) (glyphs_at dots P) (length smears) (horizontal_at dots) r s s₁ O i l).1;
        }

    -- what both leave
    pub lines-ordered : {s₂ : List ℕ} → Stored (λ t. index_from no_line 0 (suc t) (order_at s₁ (horizontal_at dots) r)) (vertical_at dots P) (length smears) s₁ s₂
        → LinesOrdered p unit cs ks labels smears dots P s s₂ r
    lines-ordered {s₂} F =
        record {
          count = ordered-count;
          kept = record {
            len = F.within.len ∙ O.words.within.len;
            same = λ i l. F.within.past i (let a = H.few_smears in omega arith) ∙ O.words.within.past i (let a = few-ordered in let b = H.few_smears in omega arith);
          };
          few = few-ordered;
          labelled = λ i l. subst (λ z. (0 < z) × (z ≤ length smears)) (sym (there i l)) (order-labels p unit (smears_at dots P) (glyphs_at dots P) (length smears) (horizontal_at dots) r s s₁ O i l);
          order = λ i l. ap (λ z. z - 1) (there i l) ∙ order-smears p unit (smears_at dots P) (glyphs_at dots P) (length smears) (horizontal_at dots) r s s₁ O i l;
          numbers = numbers-are (kept_lines p unit (glyphs_of cs ks labels) smears) (horizontal_at dots) r (vertical_at dots P) (length smears) s₁ s₂ order_room labels-in-order F;
        }
      where
        there : (i : ℕ) → i < r → get_or s₂ (horizontal_at dots + i) 0 ≡ get_or s₁ (horizontal_at dots + i) 0
        there i l = F.within.before (horizontal_at dots + i) (let a = few-ordered in let b = H.few_smears in omega arith)

  -- From here on the words s₂, with the lines ordered

  module _ {s₂ : List ℕ} {n : ℕ} (L : LinesOrdered p unit cs ks labels smears dots P s s₂ n) where
    held₂ : HoldsGlyphs cs ks labels (sizes_at dots P) (kinds_at dots P) s₂
    held₂ =
        glyphs-kept cs ks labels (sizes_at dots P) (kinds_at dots P) (sizes_at dots P) s s₂ (omega arith) (omega arith)
        (let a = H.few_components in let b = H.room in omega arith) L.kept H.glyphs

    smoothed₂ : HoldsSmears (glyphs_of cs ks labels) smears (smears_at dots P) (glyphs_at dots P) s₂
    smoothed₂ =
        smears-kept (glyphs_of cs ks labels) smears (smears_at dots P) (glyphs_at dots P) (sizes_at dots P) s s₂ (omega arith) (omega arith)
        (let a = H.few_smears in let b = H.room in omega arith) L.kept H.smoothed

    label-low : (k : ℕ) → k < length cs → label_at s₂ (kinds_at dots P) k ≤ length smears
    label-low k l = subst (λ z. z ≤ length smears) (sym (label_of cs ks labels (sizes_at dots P) (kinds_at dots P) s₂ held₂ k l)) (go (eqb (get_or ks k 0) glyph_kind))
      where
        go : (t : Bool) → cond t (labels k) 0 ≤ length smears
        go true = H.low k l
        go false = omega arith

    -- what writing the glyphs asks
    pub glyphs-ask : (room : ℕ) → length cs * 6 ≤ room → GlyphRoom (sizes_at dots P) (kinds_at dots P) (length cs) (vertical_at dots P) s₂ room
    glyphs-ask room q =
        let a = H.few_components in
        let b = H.room in
        let d = L.kept.len in
        let e = H.few_smears in
        record {
          sizes_room = omega arith;
          kinds_room = omega arith;
          lines = λ k l g. let f = label-low k l in omega arith;
          room = q;
        }

    pub glyphs-count : length (glyphs_among s₂ (kinds_at dots P) (length cs)) ≡ length (glyphs_of cs ks labels)
    glyphs-count =
        sym (ap length (glyphs-are cs ks labels (sizes_at dots P) (kinds_at dots P) s₂ held₂) ∙ length-map (glyphs_among s₂ (kinds_at dots P) (length cs)) (glyph_of cs labels))

    pub glyphs-records : encoded (glyph_record_at s₂ (sizes_at dots P) (kinds_at dots P) (vertical_at dots P)) (glyphs_among s₂ (kinds_at dots P) (length cs))
        ≡ encoded glyph_record (map (glyph_box (kept_lines p unit (glyphs_of cs ks labels) smears)) (glyphs_of cs ks labels))
    glyphs-records =
        glyph-records cs ks labels (sizes_at dots P) (kinds_at dots P) s₂ held₂ (kept_lines p unit (glyphs_of cs ks labels) smears) (vertical_at dots P) (length smears) L.numbers label-low

    own-box : (k : ℕ) → k < length cs → Inside w h (size_box s₂ (sizes_at dots P) k)
    own-box k l = subst (Inside w h) (sym (size-box cs s₂ (sizes_at dots P) held₂.held k l)) (H.boxes k l)

    -- what writing the lines asks
    pub lines-ask : (room : ℕ) → n * 8 ≤ room → LinesRoom (line_places h dots P (length cs) (length smears)) n s₂ room
    lines-ask room q =
        let a = H.few_components in
        let b = H.room in
        let d = L.kept.len in
        let e = H.few_smears in
        let f = L.few in
        let g = H.heights in
        record {
          own = record {
            before_heads = omega arith;
            lists = record {
              before_nexts = omega arith;
              before_kinds = omega arith;
              room = omega arith;
              few = let i = H.few in omega arith;
              labels = label-low;
            };
            before_sizes = omega arith;
            sizes_room = omega arith;
            tops = λ k l. (own-box k l).rows;
            low = λ k l. let i = (own-box k l).bottom in omega arith;
            narrow = let i = H.high in omega arith;
            ink = subst (λ (z : List ℕ). total z ≤ 4294967295) (sym (areas-are cs s₂ (sizes_at dots P) held₂.held)) H.ink;
            before_smoothed = omega arith;
            before_glyphs = omega arith;
            smoothed_room = omega arith;
            glyphs_room = omega arith;
            counted = smears-counted cs ks labels (sizes_at dots P) (kinds_at dots P) (smears_at dots P) (glyphs_at dots P) smears s₂ held₂ smoothed₂;
          };
          before_order = omega arith;
          order_room = omega arith;
          labels = λ i l. (L.labelled i l).0;
          low = λ i l. (L.labelled i l).1;
          room = q;
        }

    -- the order is the same by either words
    same-smear : (i : ℕ) → i < n → ordered_smear s₂ (horizontal_at dots) i ≡ get_or (line_smears p unit s₂ (smears_at dots P) (glyphs_at dots P) (length smears)) i 0
    same-smear i l =
        let a = labels-are p unit (glyphs_of cs ks labels) smears (smears_at dots P) (glyphs_at dots P) s H.smoothed in
        let b = labels-are p unit (glyphs_of cs ks labels) smears (smears_at dots P) (glyphs_at dots P) s₂ smoothed₂ in
        let d = ap (λ (z : List ℕ). get_or z i 1) (sym a ∙ b) in
        let e = ListN.get_or-map suc (line_smears p unit s (smears_at dots P) (glyphs_at dots P) (length smears)) i 0 in
        let f = ListN.get_or-map suc (line_smears p unit s₂ (smears_at dots P) (glyphs_at dots P) (length smears)) i 0 in
        let g = L.order i l in
        omega arith

    pub lines-records : encoded (λ i. line_record_at s₂ (smears_at dots P) (glyphs_at dots P) (sizes_at dots P) (kinds_at dots P) (length cs) (ordered_smear s₂ (horizontal_at dots) i)) (upto n)
        ≡ plain_records (kept_lines p unit (glyphs_of cs ks labels) smears)
    lines-records =
        line-records p unit cs ks labels (sizes_at dots P) (kinds_at dots P) s₂ held₂ smears (smears_at dots P) (glyphs_at dots P) smoothed₂ (horizontal_at dots) n s₂ L.count same-smear
        ∙ ap (λ k. encoded line_record (table (plain_line (kept_lines p unit (glyphs_of cs ks labels) smears)) k)) L.count

  -- The lines for grouping

  line-smear : (i : ℕ) (d : SmoothedLine) → i < length (kept_lines p unit (glyphs_of cs ks labels) smears)
      → (t : ℕ) × (t < length smears) × ((get_or (kept_lines p unit (glyphs_of cs ks labels) smears) i d).bbox ≡ box_of (get_or smears t no_dots))
  unfolding smoothed_line
  line-smear i d l =
      let rs = line_smears p unit s (smears_at dots P) (glyphs_at dots P) (length smears) in
      let e = lines_are p unit (glyphs_of cs ks labels) smears (smears_at dots P) (glyphs_at dots P) s H.smoothed in
      let n = ap length e ∙ length-map rs (line_of (glyphs_of cs ks labels) smears) in (
        get_or rs i 0,
        each_at (λ t. t < length smears) rs (smears-low p unit s (smears_at dots P) (glyphs_at dots P) (length smears)) i 0 (omega arith),
        ap (λ (z : List SmoothedLine). (get_or z i d).bbox) e ∙ ap (λ (z : SmoothedLine). z.bbox) (get_or-mapped (line_of (glyphs_of cs ks labels) smears) rs i d 0 (omega arith)),
      )

  pub few_lines : length (kept_lines p unit (glyphs_of cs ks labels) smears) ≤ length smears
  few_lines =
      let rs = line_smears p unit s (smears_at dots P) (glyphs_at dots P) (length smears) in
      let e = ap length (lines_are p unit (glyphs_of cs ks labels) smears (smears_at dots P) (glyphs_at dots P) s H.smoothed) ∙ length-map rs (line_of (glyphs_of cs ks labels) smears) in
      let f = smears-few p unit s (smears_at dots P) (glyphs_at dots P) (length smears) in
      omega arith

  -- what grouping the lines asks
  pub groups-ask : (before results : List ℕ) (n words : ℕ) → results ≡ put_at (lines_at w P) (plain_records (kept_lines p unit (glyphs_of cs ks labels) smears)) before
      → length results ≡ length before → length results ≡ out → n ≡ length (kept_lines p unit (glyphs_of cs ks labels) smears) → words ≡ length s → w ≤ max_frame_width → 2 * w ≤ length s
      → GroupRoom w h P (kept_lines p unit (glyphs_of cs ks labels) smears) before results n words
  groups-ask before results n words held long room count same narrow across =
      let a = few_lines in
      let b = H.few_smears in
      let d = H.room in
      let e = H.heights in
      record {
        held = held;
        long = long;
        count = count;
        few = omega arith;
        capacity = H.few;
        narrow = narrow;
        low = H.high;
        boxes = λ i d l. let (t, q, f) = line-smear i d l in subst (Inside w h) (sym f) (H.smear_boxes t q);
        by_top = lines-go-by-top p unit (glyphs_of cs ks labels) smears;
        room = let f = H.results_room in omega arith;
        heights = omega arith;
        parents = omega arith;
        across = omega arith;
      }
