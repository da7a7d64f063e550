-- Glyphs and lines ordered and written: what each call asks and what all leave, by the counts and the words that the code has.
use mathlib.Core.Path.{◌≡◌, sym, ap, ◌∙◌, subst}
use mathlib.Core.List.{List, map}
use Prim.Native.Nat.{ℕ, suc, ◌-◌}
use native.Mathlib.Omega.{arith}
use lib.Ieee.{Float}
use lib.ListN.{length, take, drop}
use borrow.Rule.Slice.PartMut.{put_mid}
use Rattle.memory.specs.rules.Lists.{upto, index_from}
use Rattle.memory.specs.rules.Limits.{no_line}
use Rattle.memory.specs.rules.Records.{encoded}
use Rattle.memory.specs.rules.Words.{over, put_at}
use Rattle.labelling.specs.declared.component.Component.{Component}
use Rattle.params.specs.declared.LayoutParams.{LayoutParams}
use Rattle.sorting.specs.stages.Scratch.{horizontal_at, vertical_at, sizes_at, kinds_at, smears_at, glyphs_at}
use Rattle.smoothing.specs.rules.Lines.{glyph_box, kept_lines}
use Rattle.smoothing.specs.rules.LineRecords.{glyph_record}
use Rattle.memory.specs.stages.Stored.{Stored}
use Rattle.smoothing.specs.stages.LineWords.{glyphs_of, line_smears, OrderRoom, ordered_smear, OrderedLines, NumberRoom, order_at, GlyphRoom, WrittenGlyphs}
use Rattle.smoothing.specs.stages.GlyphLists.{record_at, LinesRoom}
use Rattle.smoothing.specs.declared.lines.LinePlaces.{LinePlaces}
use Rattle.segmenting.specs.rules.Results.{glyph_records_at, lines_at}
use Rattle.segmenting.specs.stages.Writing.{plain_records, LinesHeld, LinesOrdered, line_places, lines_left}
use Rattle.segmenting.proofs.PutLaws.{part_length, put-part}
use Rattle.segmenting.proofs.WritingLaws.{order-ask, number-ask, lines-ordered, glyphs-ask, glyphs-count, glyphs-records, lines-ask, lines-records}

module _ {p : LayoutParams} {unit : Float} {cs : List Component} {ks : List ℕ} {labels : ℕ → ℕ} {smears : List Component} {w h dots P : ℕ} {s : List ℕ} {out : ℕ}
    (H : LinesHeld p unit cs ks labels smears w h dots P s out) where
  -- by the count of smoothed components
  module _ {n : ℕ} (e : n ≡ length smears) where
    pub text-order : OrderRoom (horizontal_at dots) (smears_at dots P) (glyphs_at dots P) n s
    text-order = subst (λ k. OrderRoom (horizontal_at dots) (smears_at dots P) (glyphs_at dots P) k s) (sym e) (order-ask H)

    module _ {s₁ : List ℕ} {r : ℕ} (O : OrderedLines (line_smears p unit s (smears_at dots P) (glyphs_at dots P) n) (horizontal_at dots) s s₁ r) where
      ordered : OrderedLines (line_smears p unit s (smears_at dots P) (glyphs_at dots P) (length smears)) (horizontal_at dots) s s₁ r
      ordered = subst (λ k. OrderedLines (line_smears p unit s (smears_at dots P) (glyphs_at dots P) k) (horizontal_at dots) s s₁ r) e O

      pub text-number : NumberRoom (horizontal_at dots) r (vertical_at dots P) n s₁
      text-number = subst (λ k. NumberRoom (horizontal_at dots) r (vertical_at dots P) k s₁) (sym e) (number-ask H ordered)

      pub text-ordered : {s₂ : List ℕ} → Stored (λ t. index_from no_line 0 (suc t) (order_at s₁ (horizontal_at dots) r)) (vertical_at dots P) n s₁ s₂
          → LinesOrdered p unit cs ks labels smears dots P s s₂ r
      text-ordered {s₂} F =
          lines-ordered H ordered (subst (λ k. Stored (λ t. index_from no_line 0 (suc t) (order_at s₁ (horizontal_at dots) r)) (vertical_at dots P) k s₁ s₂) e F)

  -- by the count of components, with words enough for the results
  module _ {s₂ : List ℕ} {n : ℕ} (L : LinesOrdered p unit cs ks labels smears dots P s s₂ n) {m : ℕ} (d : m ≡ length cs) where
    pub text-glyphs : (results : List ℕ) → length results ≡ out
        → GlyphRoom (sizes_at dots P) (kinds_at dots P) m (vertical_at dots P) s₂ (length (take (length results - glyph_records_at w P) (drop (glyph_records_at w P) results)))
    text-glyphs results q =
        let part = take (length results - glyph_records_at w P) (drop (glyph_records_at w P) results) in
        let a = part_length (glyph_records_at w P) results in
        let b = H.results_room in
        let f = H.few_components in
        subst (λ k. GlyphRoom (sizes_at dots P) (kinds_at dots P) k (vertical_at dots P) s₂ (length part)) (sym d) (glyphs-ask H L (length part) (omega arith))

    pub text-lines : {k : ℕ} → k ≡ length smears → (places : LinePlaces) → places ≡ line_places h dots P m k → (results : List ℕ) → length results ≡ out
        → LinesRoom places n s₂ (length (take (length results - lines_at w P) (drop (lines_at w P) results)))
    text-lines {k} e places z results q =
        let part = take (length results - lines_at w P) (drop (lines_at w P) results) in
        let a = part_length (lines_at w P) results in
        let b = H.results_room in
        let f = H.few_smears in
        let g = L.few in
        let same : line_places h dots P (length cs) (length smears) ≡ places = sym (z ∙ (λ i. line_places h dots P (d i) (e i))) in
        subst (λ (y : LinePlaces). LinesRoom y n s₂ (length part)) same (lines-ask H L (length part) (omega arith))

    -- what both leave
    module _ (results : List ℕ) {part : List ℕ} {found : ℕ}
        (G : WrittenGlyphs (sizes_at dots P) (kinds_at dots P) m (vertical_at dots P) s₂ (take (length results - glyph_records_at w P) (drop (glyph_records_at w P) results)) part found) where
      written : WrittenGlyphs (sizes_at dots P) (kinds_at dots P) (length cs) (vertical_at dots P) s₂ (take (length results - glyph_records_at w P) (drop (glyph_records_at w P) results)) part found
      written =
          subst (λ k. WrittenGlyphs (sizes_at dots P) (kinds_at dots P) k (vertical_at dots P) s₂ (take (length results - glyph_records_at w P) (drop (glyph_records_at w P) results)) part found) d G

      pub text-found : found ≡ length (glyphs_of cs ks labels)
      text-found = written.count_is ∙ glyphs-count H L

      glyphs-put : put_mid (glyph_records_at w P) (length results - glyph_records_at w P) results part
          ≡ put_at (glyph_records_at w P) (encoded glyph_record (map (glyph_box (kept_lines p unit (glyphs_of cs ks labels) smears)) (glyphs_of cs ks labels))) results
      glyphs-put =
          put-part (glyph_records_at w P) results (encoded glyph_record (map (glyph_box (kept_lines p unit (glyphs_of cs ks labels) smears)) (glyphs_of cs ks labels))) part
          (written.words ∙ ap (λ (z : List ℕ). over z (take (length results - glyph_records_at w P) (drop (glyph_records_at w P) results))) (glyphs-records H L))

      pub text-left : {k : ℕ} (places : LinePlaces) → places ≡ line_places h dots P m k → (one last : List ℕ)
          → one ≡ put_mid (glyph_records_at w P) (length results - glyph_records_at w P) results part
          → last ≡ over (encoded (λ i. record_at places s₂ (ordered_smear s₂ places.order i)) (upto n)) (take (length one - lines_at w P) (drop (lines_at w P) one))
          → put_mid (lines_at w P) (length one - lines_at w P) one last ≡ lines_left w P (glyphs_of cs ks labels) (kept_lines p unit (glyphs_of cs ks labels) smears) results
      text-left {k} places z one last q F =
          let own : places ≡ line_places h dots P (length cs) k = z ∙ ap (λ j. line_places h dots P j k) d in
          let records = ap (λ (y : LinePlaces). encoded (λ i. record_at y s₂ (ordered_smear s₂ y.order i)) (upto n)) own ∙ lines-records H L in
          put-part (lines_at w P) one (plain_records (kept_lines p unit (glyphs_of cs ks labels) smears)) last
          (F ∙ ap (λ (y : List ℕ). over y (take (length one - lines_at w P) (drop (lines_at w P) one))) records)
          ∙ ap (put_at (lines_at w P) (plain_records (kept_lines p unit (glyphs_of cs ks labels) smears))) (q ∙ glyphs-put)
