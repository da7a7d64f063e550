-- Thin rulings cut and labelled at the stages: which number a call is refused with, and what the call leaves. Assumes nothing.
use mathlib.Core.Path.{◌≡◌, sym, ap, ◌∙◌, subst}
use mathlib.Core.List.{List, [], ◌∷◌, ◌++◌}
use mathlib.Core.Bool.{cond}
use Prim.Native.Nat.{ℕ, ◌*◌, ◌≤◌, ◌<◌, max}
use native.Mathlib.Nat.{le_refl}
use native.Mathlib.Omega.{arith}
use borrow.Author.Tests.{ltb-false, lt-ltb, le-ltb}
use lib.Dec.{ltb}
use lib.ListN.{length, take, drop}
use lib.Seq.{length-take-le}
use Rattle.memory.specs.rules.Limits.{scratch_words}
use Rattle.memory.specs.rules.Lists.{greatest}
use Rattle.memory.specs.rules.Refusals.{refuse_if}
use Rattle.memory.specs.rules.Words.{over}
use Rattle.memory.proofs.RefusalLaws.{refusal-passed, passes_none, passes-if}
use Rattle.sorting.specs.stages.SortSteps.{FrameRoom, CutsHeld}
use Rattle.sorting.specs.rules.Capacity.{most_cuts}
use Rattle.sorting.specs.declared.sort.Cuts.{Cuts}
use Rattle.stages.specs.rules.Frames.{frame_refusal, room_refusal, told}
use Rattle.stages.specs.rules.Sorting.{cuts_many, cut_counts, cut_rulings}
use Rattle.stages.proofs.FrameLaws.{frame-pass, room-pass, FrameGood, frame-good, RoomGood, room-good, told-refused, told-many, told-done}

-- each count is at most the greatest number of components
pub record FewCuts (P : ℕ) (f : Cuts) : Type 0 where
  pub horizontal : f.horizontal ≤ P
  pub vertical : f.vertical ≤ P

pub few-cuts : {run_min thick_max w h P : ℕ} {m s : List ℕ} {f : Cuts} → CutsHeld run_min thick_max w h m P s f → FewCuts P f
unfolding greatest
few-cuts H = let a = H.few in let x = H.horizontal_is in let y = H.vertical_is in record { horizontal = omega arith; vertical = omega arith }

-- What a call leaves

module _ (run_min thick_max w h : ℕ) (m : List ℕ) (P : ℕ) (words counts : List ℕ) where
  abbrev run : ℕ
  run = max 2 run_min

  abbrev need : ℕ
  need = scratch_words (w * h) P

  abbrev by-counts : ℕ → ℕ
  by-counts = refuse_if (ltb (length counts) 2) 9

  abbrev by-room : ℕ → ℕ
  by-room x = room_refusal (w * h) P (length words) (by-counts x)

  abbrev many : ℕ
  many = cuts_many run thick_max w h m P

  refused : (n : ℕ) → frame_refusal w h (length m) (by-room many) ≡ n → (n ≡ 0 → ⊥)
      → told n counts (length words) (drop (scratch_words (w * h) P) words) ≡ cut_rulings run_min thick_max w h m P words counts
  refused n e ne = told-refused (w * h) P (cut_counts run thick_max w h m) words counts n _ e ne

  pub refused-frame : (n : ℕ) → n ≡ frame_refusal w h (length m) 0 → (n ≡ 0 → ⊥)
      → told n counts (length words) (drop (scratch_words (w * h) P) words) ≡ cut_rulings run_min thick_max w h m P words counts
  refused-frame n e ne = refused n ((frame-pass w h (length m) passes_none).stop (λ z. ne (e ∙ z)) (by-room many) ∙ sym e) ne

  module _ (frame : ℕ) (ef : frame ≡ frame_refusal w h (length m) 0) (gf : frame ≡ 0) where
    pub cut-frame : FrameGood w h (length m) 0
    cut-frame = frame-good w h (length m) 0 (sym ef ∙ gf)

    module _ (later room : ℕ) (ec : later ≡ by-counts 0) (er : room ≡ room_refusal (w * h) P (length words) later) where
      room-is : room ≡ by-room 0
      room-is = er ∙ ap (room_refusal (w * h) P (length words)) ec

      pub refused-room : (room ≡ 0 → ⊥) → told room counts (length words) (drop (scratch_words (w * h) P) words) ≡ cut_rulings run_min thick_max w h m P words counts
      refused-room ne =
          refused room
          ((frame-pass w h (length m) passes_none).pass (sym ef ∙ gf) (by-room many)
          ∙ ((room-pass (w * h) P (length words) (passes-if (ltb (length counts) 2) 8 passes_none)).stop (λ z. ne (room-is ∙ z)) many ∙ sym room-is))
          ne

      module _ (gr : room ≡ 0) where
        pub cut-lent : RoomGood (w * h) P (length words) (by-counts 0)
        cut-lent = room-good (w * h) P (length words) (by-counts 0) (sym room-is ∙ gr)

        pub cut-counts : 2 ≤ length counts
        cut-counts = ltb-false (length counts) 2 (refusal-passed (ltb (length counts) 2) 8 0 cut-lent.later).passed

        pub cut-room : FrameRoom w h m P (take need words)
        cut-room =
            let G = cut-frame in
            record {
              wide = G.wide;
              narrow = G.narrow;
              high = G.high;
              low = G.low;
              whole = G.whole;
              few = cut-lent.few;
              room = subst (λ z. scratch_words (w * h) P ≤ z) (sym (length-take-le need words cut-lent.words_room)) (le_refl _);
            }

        number_is : frame_refusal w h (length m) (by-room many) ≡ many
        number_is =
            (frame-pass w h (length m) passes_none).pass (sym ef ∙ gf) (by-room many)
            ∙ (room-pass (w * h) P (length words) (passes-if (ltb (length counts) 2) 8 passes_none)).pass (sym room-is ∙ gr) many

        module _ (part : List ℕ) (ep : length part ≡ length (take need words)) where
          pub cut-many : P < most_cuts run thick_max w h m
              → told 20 counts (length (part ++ drop need words)) (drop (scratch_words (w * h) P) (part ++ drop need words)) ≡ cut_rulings run_min thick_max w h m P words counts
          unfolding refuse_if
          cut-many l =
              told-many (w * h) P (cut_counts run thick_max w h m) words counts part cut-lent.words_room ep 20 _
              (number_is ∙ ap (λ b. cond b 20 0) (lt-ltb P (most_cuts run thick_max w h m) l))
              (λ z. absurd (omega arith))

          pub cut-done : (f : Cuts) (counts' : List ℕ) → CutsHeld run thick_max w h m P part f → counts' ≡ over (f.horizontal ∷ f.vertical ∷ []) counts
              → told 0 counts' (length (part ++ drop need words)) (drop (scratch_words (w * h) P) (part ++ drop need words)) ≡ cut_rulings run_min thick_max w h m P words counts
          unfolding refuse_if
          cut-done f counts' H e =
              told-done (w * h) P (cut_counts run thick_max w h m) words counts part cut-lent.words_room ep _
              (number_is ∙ ap (λ b. cond b 20 0) (le-ltb P (most_cuts run thick_max w h m) H.few)) counts'
              (e ∙ (λ i. over (H.horizontal_is i ∷ H.vertical_is i ∷ []) counts))
