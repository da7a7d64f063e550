-- The counts of lines that start and end at each frame column, in lent words, and what their sums are.
use mathlib.Core.Path.{◌≡◌, sym, ap, ◌∙◌, subst}
use mathlib.Core.List.{List, ◌++◌, map}
use Prim.Native.Nat.{ℕ, suc, ◌+◌, ◌-◌, ◌*◌, ◌≤◌, ◌<◌}
use native.Mathlib.Omega.{arith}
use lib.Ieee.{Float}
use lib.ListN.{get_or, length, take, drop, length-append, length-drop, length-take, get_or-append}
use lib.Seq.{take_at, get_or-append-add}
use borrow.Rule.Slice.PartMut.{put_mid}
use Rattle.memory.specs.rules.Lists.{table, occurs, keep, upto, greatest}
use Rattle.memory.specs.rules.Words.{over}
use Rattle.memory.specs.rules.Records.{encoded, fields}
use Rattle.memory.proofs.TableLaws.{length-table, table-ext}
use Rattle.memory.specs.declared.rect.Rect.{Rect}
use Rattle.memory.proofs.PartLaws.{tail-part, tail-put}
use Rattle.params.specs.declared.LayoutParams.{LayoutParams}
use Rattle.rounding.specs.rules.Lengths.{◌·◌, dots}
use Rattle.grouping.specs.rules.Columns.{cover, covered, enough_cover, column_runs, columns_of}
use Rattle.grouping.specs.stages.Covers.{CoverSteps}
use Rattle.grouping.specs.stages.LineBoxes.{Lines, line_boxes}
use Rattle.grouping.specs.rules.HeldLines.{line_box}
use Rattle.grouping.specs.rules.BlockRecords.{column_record}
use Rattle.grouping.specs.stages.Counts.{counts}
use Rattle.grouping.specs.declared.column.Column.{Column}
use Rattle.memory.proofs.ListLaws.{Each, each-table, map-table, keep_same}
use Rattle.extents.proofs.OverLaws.{over-at}
use Rattle.grouping.proofs.TableWords.{over-length}
use Rattle.grouping.proofs.CoverLaws.{cover-first, cover-next, cover-ended, cover-length}

module _ (lines : List ℕ) (n w h : ℕ) (v : Lines w h n lines) where
  starts : map (λ (r : Rect). r.x0) (line_boxes lines n) ≡ fields 8 0 lines n
  starts = map-table (λ (r : Rect). r.x0) (line_box lines) n ∙ table-ext _ _ n (λ i l. ap (λ k. get_or lines k 0) (let e : i * 8 ≡ i * 8 + 0 = omega arith in e))

  ends : map (λ (r : Rect). r.x1) (line_boxes lines n) ≡ fields 8 2 lines n
  ends = map-table (λ (r : Rect). r.x1) (line_box lines) n

  in_order : Each (λ (r : Rect). r.x0 ≤ r.x1) (line_boxes lines n)
  in_order = each-table (λ (r : Rect). r.x0 ≤ r.x1) (line_box lines) n (λ i l. (v.boxes i l).columns)

  pub start-below : (i : ℕ) → i < n → get_or lines (i * 8 + 0) 0 < w
  start-below i l =
      let e : get_or lines (i * 8) 0 ≡ get_or lines (i * 8 + 0) 0 = ap (λ k. get_or lines k 0) (let z : i * 8 ≡ i * 8 + 0 = omega arith in z) in
      let b = v.boxes i l in
      let c = b.columns in
      let r = b.right in
      omega arith

  -- the two tables one after the other
  steps : n ≤ 4294967295 → (s : List ℕ) → 2 * w ≤ length s → ((x : ℕ) → x < w → get_or s x 0 ≡ occurs x (fields 8 0 lines n))
      → ((x : ℕ) → x < w → get_or s (w + x) 0 ≡ occurs x (fields 8 2 lines n)) → CoverSteps w s (cover (line_boxes lines n))
  steps few s room a b =
      record {
        room = room;
        first = λ k. a 0 k ∙ (ap (occurs 0) (sym starts) ∙ sym (cover-first (line_boxes lines n)));
        next = λ x k.
            let c = cover-next x (line_boxes lines n) in_order in
            let d : get_or s (suc x) 0 ≡ occurs (suc x) (map (λ (r : Rect). r.x0) (line_boxes lines n)) = a (suc x) k ∙ ap (occurs (suc x)) (sym starts) in
            let e : get_or s (w + x) 0 ≡ occurs x (map (λ (r : Rect). r.x1) (line_boxes lines n)) = b x (omega arith) ∙ ap (occurs x) (sym ends) in
            omega arith;
        ended = λ x k.
            let c = cover-ended x (line_boxes lines n) in_order in
            let e : get_or s (w + x) 0 ≡ occurs x (map (λ (r : Rect). r.x1) (line_boxes lines n)) = b x k ∙ ap (occurs x) (sym ends) in
            omega arith;
        fits = λ x. let c = cover-length x (line_boxes lines n) in let d = length-table (line_box lines) n in omega arith;
      }

  -- as the two calls leave them
  pub filled-steps : n ≤ 4294967295 → (s a b : List ℕ) → 2 * w ≤ length s → a ≡ over (counts (fields 8 0 lines n) w) (take w s)
      → b ≡ over (counts (fields 8 2 lines n) w) (take (length (a ++ drop w s) - w) (drop w (a ++ drop w s)))
      → CoverSteps w (put_mid w (length (a ++ drop w s) - w) (a ++ drop w s) b) (cover (line_boxes lines n))
  filled-steps few s a b room ea eb =
      let la : length a ≡ w =
      ap length ea ∙ (over-length (counts (fields 8 0 lines n) w) (take w s) (let t = length-table (λ k. occurs k (fields 8 0 lines n)) w in let u = length-take w s in omega arith)
      ∙ (let u = length-take w s in omega arith)) in
      let long : length (a ++ drop w s) ≡ length s = length-append a (drop w s) ∙ (let d = length-drop w s in omega arith) in
      let lb : length b ≡ length s - w =
      ap length eb ∙ (ap (λ (t : List ℕ). length (over (counts (fields 8 2 lines n) w) t)) (tail-part w (a ++ drop w s))
      ∙ (over-length (counts (fields 8 2 lines n) w) (drop w (a ++ drop w s)) (let t = length-table (λ k. occurs k (fields 8 2 lines n)) w in let u = length-drop w (a ++ drop w s) in omega arith)
      ∙ (let u = length-drop w (a ++ drop w s) in omega arith))) in
      let whole : put_mid w (length (a ++ drop w s) - w) (a ++ drop w s) b ≡ a ++ b = tail-put w (a ++ drop w s) b ∙ ap (λ (t : List ℕ). t ++ b) (take_at a (drop w s) w la) in
      subst (λ (t : List ℕ). CoverSteps w t (cover (line_boxes lines n))) (sym whole)
      (steps few (a ++ b) (let d = length-append a b in omega arith)
      (λ x k. get_or-append a b 0 x (omega arith) ∙ (ap (λ (t : List ℕ). get_or t x 0) ea ∙ over-at (λ z. occurs z (fields 8 0 lines n)) w (take w s) x k))
      (λ x k. ap (λ i. get_or (a ++ b) (i + x) 0) (sym la)
      ∙ (get_or-append-add a b x 0
      ∙ (ap (λ (t : List ℕ). get_or t x 0) eb ∙ over-at (λ z. occurs z (fields 8 2 lines n)) w (take (length (a ++ drop w s) - w) (drop w (a ++ drop w s))) x k))))

-- what the sums say of each frame column
pub filled_at : (f : ℕ → ℕ) (w : ℕ) (s t : List ℕ) → s ≡ over (table f w) t → (x : ℕ) → x < w → get_or s x 0 ≡ f x
filled_at f w s t e x k = ap (λ (z : List ℕ). get_or z x 0) e ∙ over-at f w t x k

-- the columns written are those of the page
pub columns-right : (p : LayoutParams) (unit : Float) (w : ℕ) (ls : List Rect) (words : List ℕ) (busiest gap : ℕ) → busiest ≡ greatest (table (cover ls) w) → gap ≡ dots (p.column_gap_xh · unit)
    → ((x : ℕ) → x < w → get_or words x 0 ≡ cover ls x)
    → column_runs gap (keep (λ x. enough_cover p.column_cover_frac busiest (get_or words x 0)) (upto w)) ≡ columns_of p unit w ls
unfolding columns_of covered
columns-right p unit w ls words busiest gap eb eg h =
    (λ i. column_runs (eg i) (keep (λ x. enough_cover p.column_cover_frac (eb i) (get_or words x 0)) (upto w)))
    ∙ ap (column_runs (dots (p.column_gap_xh · unit)))
    (keep_same (λ x. enough_cover p.column_cover_frac (greatest (table (cover ls) w)) (get_or words x 0)) (covered p (greatest (table (cover ls) w)) ls) w
    (λ x k. ap (enough_cover p.column_cover_frac (greatest (table (cover ls) w))) (h x k)))

pub columns-written : (cs ds : List Column) (r : ℕ) (out out₀ : List ℕ) → cs ≡ ds → (r ≡ length cs) × (out ≡ over (encoded column_record cs) out₀)
    → (r ≡ length ds) × (out ≡ over (encoded column_record ds) out₀)
columns-written cs ds r out out₀ e h = subst (λ (t : List Column). (r ≡ length t) × (out ≡ over (encoded column_record t) out₀)) e h
