-- Run extents called by themselves: refused, or done.
use mathlib.Core.Path.{◌≡◌, sym}
use mathlib.Core.Bool.{not}
use mathlib.Core.List.{List}
use Prim.Native.Nat.{ℕ, ◌*◌}
use borrow.Author.Tests.{ltb-false, eqb-true, not-false, ne_eqb}
use lib.ListN.{length}
use lib.Dec.{eqb, ltb}
use Rattle.memory.specs.rules.Words.{over}
use Rattle.memory.proofs.RefusalLaws.{number_positive, Passed, refusal-passed}
use Rattle.memory.proofs.MaskLaws.{sides-passed}
use Rattle.extents.specs.rules.Answers.{extents_refusal, extents_along, run_extents}
use Rattle.extents.specs.stages.Scans.{MaskFits}
use Rattle.extents.specs.declared.entry.Along.{Along}
use Rattle.std.specs.Prelude.{true, false}
use Rattle.memory.specs.declared.refusals.Refusal.{Refusal}
use Rattle.memory.specs.rules.Refusals.{number}

pub extents-refused : (m s : List ℕ) (w h : ℕ) (r : Refusal) (along : Along) → number r ≡ extents_refusal (length m) w h (length s)
    → record { refused = true; number = number r; extents = s } ≡ run_extents m w h along s
unfolding run_extents
extents-refused m s w h r along e = rw (← e) (rw (ne_eqb (number r) 0 (number_positive r)))

pub extents-done : (m s t : List ℕ) (w h : ℕ) (along : Along) → 0 ≡ extents_refusal (length m) w h (length s) → t ≡ over (extents_along along w h m) s
    → record { refused = false; number = 0; extents = t } ≡ run_extents m w h along s
unfolding run_extents
extents-done m s t w h along e q = rw (← e) (rw q)

pub extents-fit : (mask_length w h words : ℕ) → 0 ≡ extents_refusal mask_length w h words → MaskFits w h mask_length words
unfolding extents_refusal
extents-fit mask_length w h words e =
    let a = sides-passed w h _ (sym e) in
    let c : Passed (not (eqb mask_length (w * h))) _ = refusal-passed (not (eqb mask_length (w * h))) 1 _ a.later in
    let d : Passed (ltb words (w * h)) 0 = refusal-passed (ltb words (w * h)) 8 0 c.later in
    record {
      wide = a.wide;
      narrow = a.narrow;
      high = a.high;
      low = a.low;
      few = a.few;
      dots = eqb-true mask_length (w * h) (not-false (eqb mask_length (w * h)) c.passed);
      room = ltb-false words (w * h) d.passed;
    }
