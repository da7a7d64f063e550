-- An ink plane sorted at the stages: which number a call is refused with, and what the call leaves. Assumes nothing.
use mathlib.Core.Path.{◌≡◌, sym, ap, ◌∙◌, subst}
use mathlib.Core.List.{List, [], ◌∷◌, ◌++◌}
use mathlib.Core.Bool.{cond, not}
use Prim.Native.Nat.{ℕ, ◌*◌, ◌≤◌, ◌<◌}
use native.Mathlib.Nat.{le_refl}
use native.Mathlib.Omega.{arith}
use borrow.Author.Tests.{ltb-false, not-false, lt-ltb, le-ltb}
use lib.Dec.{ltb}
use lib.Ieee.{Float}
use lib.ListN.{length, set, take, drop, length-set}
use lib.Seq.{length-take-le}
use Rattle.memory.specs.rules.Floats.{with_float}
use Rattle.memory.specs.rules.Limits.{max_capacity, scratch_words}
use Rattle.memory.specs.rules.Lists.{greatest}
use Rattle.memory.specs.rules.Refusals.{refuse_if}
use Rattle.memory.specs.rules.Words.{over}
use Rattle.memory.proofs.CopyLaws.{stores, stores-over}
use Rattle.memory.proofs.RefusalLaws.{refusal-passed, Passes, passes_none, passes-if}
use Rattle.rounding.proofs.Tests.{yes}
use Rattle.params.specs.rules.Valid.{valid}
use Rattle.params.specs.rules.Facts.{ValidSheet}
use Rattle.params.specs.declared.LayoutParams.{LayoutParams}
use Rattle.params.proofs.SheetLaws.{valid-gives}
use Rattle.sorting.specs.stages.Scratch.{SortRoom}
use Rattle.sorting.specs.rules.Capacity.{most_components}
use Rattle.sorting.specs.rules.Sorted.{sorted}
use Rattle.sorting.specs.stages.SortSteps.{SortHeld}
use Rattle.sorting.specs.rules.Units.{unit_value}
use Rattle.sorting.specs.declared.Unit.{Unit}
use Rattle.sorting.specs.declared.sort.SortCounts.{SortCounts}
use Rattle.stages.specs.rules.Frames.{told}
use Rattle.segmenting.specs.rules.Figures.{measured_word}
use Rattle.stages.specs.rules.Pages.{plane_refusal}
use Rattle.stages.specs.rules.SortedPages.{sort_figures, sort_lent, sort_many, sort_words, sorted_words, sorted_page}
use Rattle.stages.proofs.FrameLaws.{room-pass, room-good, told-refused, told-many, told-done}
use Rattle.stages.proofs.PageLaws.{PlaneGood, plane-pass, plane-good}

-- The figures

pub sort-long : (s t : List ℕ) (a : ℕ) (x : Float) → t ≡ with_float (set s 0 a) 1 x → length t ≡ length s
sort-long s t a x e = ap length e ∙ simp length-set

pub sort-written : (unit : Unit) (ink horizontal vertical components : ℕ) (s t : List ℕ) (a : ℕ) (x : Float) → sort_figures ≤ length s → a ≡ measured_word unit → x ≡ unit_value unit
    → t ≡ with_float (set s 0 a) 1 x
    → set (set (set (set t 3 ink) 4 horizontal) 5 vertical) 6 components ≡ over (sort_words unit ink horizontal vertical components) s
unfolding sort_words
sort-written unit ink horizontal vertical components s t a x l ea ex et =
    (λ i. stores (ink ∷ horizontal ∷ vertical ∷ components ∷ []) 3 ((et ∙ (λ j. with_float (set s 0 (ea j)) 1 (ex j))) i))
    ∙ stores-over (sort_words unit ink horizontal vertical components) s l

-- each figure is at most the greatest number of components
pub record FewSorted (P : ℕ) (f : SortCounts) : Type 0 where
  pub horizontal : f.horizontal ≤ P
  pub vertical : f.vertical ≤ P
  pub components : f.component_count ≤ P

pub few-sorted : {p : LayoutParams} {w h P : ℕ} {m s : List ℕ} {f : SortCounts} → SortHeld p w h m P s f → FewSorted P f
unfolding greatest
few-sorted H =
    let a = H.few in let x = H.figures.horizontal_is in let y = H.figures.vertical_is in let z = H.figures.components_is in
    record { horizontal = omega arith; vertical = omega arith; components = omega arith }

-- What a call leaves

sort-pass : (p : LayoutParams) (dots P words figures : ℕ) → Passes (sort_lent p dots P words figures)
unfolding sort_lent
sort-pass p dots P words figures = passes-if (not (valid p)) 5 (room-pass dots P words (passes-if (ltb figures sort_figures) 8 passes_none))

pub record SortGood (p : LayoutParams) (dots P words figures : ℕ) : Type 0 where
  pub sheet : ValidSheet p
  pub few : P ≤ max_capacity
  pub words_room : scratch_words dots P ≤ words
  pub figures-room : sort_figures ≤ figures

sort-good : (p : LayoutParams) (dots P words figures : ℕ) → sort_lent p dots P words figures 0 ≡ 0 → SortGood p dots P words figures
unfolding sort_lent
sort-good p dots P words figures e =
    let p₁ = refusal-passed (not (valid p)) 5 _ e in
    let r = room-good dots P words _ p₁.later in
    let p₂ = refusal-passed (ltb figures sort_figures) 8 _ r.later in
    record {
      sheet = valid-gives p (yes (not-false (valid p) p₁.passed));
      few = r.few;
      words_room = r.words_room;
      figures-room = ltb-false figures sort_figures p₂.passed;
    }

module _ (p : LayoutParams) (w h : ℕ) (m : List ℕ) (P : ℕ) (words figures : List ℕ) where
  abbrev need : ℕ
  need = scratch_words (w * h) P

  abbrev by-lent : ℕ → ℕ
  by-lent = sort_lent p (w * h) P (length words) (length figures)

  abbrev many : ℕ
  many = sort_many p w h m P

  refused : (n : ℕ) → plane_refusal w h m (by-lent many) ≡ n → (n ≡ 0 → ⊥)
      → told n figures (length words) (drop (scratch_words (w * h) P) words) ≡ sorted_page p w h m P words figures
  refused n e ne = told-refused (w * h) P (sorted_words p w h m) words figures n _ e ne

  pub sort-plane : (n : ℕ) → n ≡ plane_refusal w h m 0 → (n ≡ 0 → ⊥)
      → told n figures (length words) (drop (scratch_words (w * h) P) words) ≡ sorted_page p w h m P words figures
  sort-plane n e ne = refused n ((plane-pass w h m).stop (λ z. ne (e ∙ z)) (by-lent many) ∙ sym e) ne

  module _ (plane : ℕ) (ep : plane ≡ plane_refusal w h m 0) (gp : plane ≡ 0) where
    pub sort-frame : PlaneGood w h m
    sort-frame = plane-good w h m (sym ep ∙ gp)

    module _ (lent : ℕ) (el : lent ≡ by-lent 0) where
      pub sort-refused : (lent ≡ 0 → ⊥) → told lent figures (length words) (drop (scratch_words (w * h) P) words) ≡ sorted_page p w h m P words figures
      sort-refused ne =
          refused lent ((plane-pass w h m).pass (sym ep ∙ gp) (by-lent many) ∙ ((sort-pass p (w * h) P (length words) (length figures)).stop (λ z. ne (el ∙ z)) many ∙ sym el)) ne

      module _ (gl : lent ≡ 0) where
        pub sort-lent : SortGood p (w * h) P (length words) (length figures)
        sort-lent = sort-good p (w * h) P (length words) (length figures) (sym el ∙ gl)

        pub sort-room : SortRoom p w h m P (take need words)
        sort-room =
            let G = sort-frame in
            let L = sort-lent in
            record {
              wide = G.wide;
              narrow = G.narrow;
              high = G.high;
              low = G.low;
              whole = G.whole;
              ones = G.ones;
              few = L.few;
              valid = L.sheet;
              room = subst (λ z. scratch_words (w * h) P ≤ z) (sym (length-take-le need words L.words_room)) (le_refl _);
            }

        number_is : plane_refusal w h m (by-lent many) ≡ many
        number_is = (plane-pass w h m).pass (sym ep ∙ gp) (by-lent many) ∙ (sort-pass p (w * h) P (length words) (length figures)).pass (sym el ∙ gl) many

        module _ (part : List ℕ) (e₀ : length part ≡ length (take need words)) where
          pub sort-many : P < most_components (sorted p w h m)
              → told 20 figures (length (part ++ drop need words)) (drop (scratch_words (w * h) P) (part ++ drop need words)) ≡ sorted_page p w h m P words figures
          unfolding refuse_if
          sort-many l =
              told-many (w * h) P (sorted_words p w h m) words figures part sort-lent.words_room e₀ 20 _
              (number_is ∙ ap (λ b. cond b 20 0) (lt-ltb P (most_components (sorted p w h m)) l))
              (λ z. absurd (omega arith))

          pub sort-done : (f : SortCounts) (figures' : List ℕ) → SortHeld p w h m P part f → figures' ≡ over (sort_words f.unit f.ink f.horizontal f.vertical f.component_count) figures
              → told 0 figures' (length (part ++ drop need words)) (drop (scratch_words (w * h) P) (part ++ drop need words)) ≡ sorted_page p w h m P words figures
          unfolding refuse_if
          sort-done f figures' H e =
              told-done (w * h) P (sorted_words p w h m) words figures part sort-lent.words_room e₀ _
              (number_is ∙ ap (λ b. cond b 20 0) (le-ltb P (most_components (sorted p w h m)) H.few)) figures'
              (e ∙ (λ i. over (sort_words (H.figures.unit_is i) (H.figures.ink_is i) (H.figures.horizontal_is i) (H.figures.vertical_is i) (H.figures.components_is i)) figures))
