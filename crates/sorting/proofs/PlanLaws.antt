-- Why the plan of scratch fits (docs/ARCHITECTURE.md): what each stage asks of an ink plane within the limits of a frame.
use mathlib.Core.Path.{◌≡◌, refl, subst}
use mathlib.Core.List.{List}
use Prim.Native.Nat.{ℕ, suc, ◌+◌, ◌-◌, ◌*◌, ◌≤◌}
use native.Mathlib.Nat.{mul-le-mul_left, mul-le-mul_right, mul_comm, suc-mul}
use native.Mathlib.Omega.{arith}
use lib.ListN.{length}
use Rattle.labelling.specs.stages.Extraction.{row_words, PlaneRoom}
use Rattle.labelling.specs.stages.Marked.{MarkedRoom, MarkedLeft}
use Rattle.labelling.specs.declared.marked.Test.{Test}
use Rattle.labelling.specs.stages.Sizes.{HoldsRuns, SizesRoom}
use Rattle.labelling.proofs.SizeLaws.{held-dots}
use Rattle.params.specs.declared.LayoutParams.{LayoutParams}
use Rattle.rulings.specs.stages.Sweeps.{RulingsRoom}
use Rattle.sorting.specs.declared.plan.Plan.{Plan}
use Rattle.sorting.specs.stages.Scratch.{SortRoom, marks_at, plan_of, Planned}
use Rattle.sorting.specs.stages.SortSteps.{FrameRoom}

pub frame-of : {p : LayoutParams} {w h P : ℕ} {m s : List ℕ} → SortRoom p w h m P s → FrameRoom w h m P s
frame-of R = record { wide = R.wide; narrow = R.narrow; high = R.high; low = R.low; whole = R.whole; few = R.few; room = R.room }

pub room-kept : {p : LayoutParams} {w h P : ℕ} {m s t : List ℕ} → SortRoom p w h m P s → length t ≡ length s → SortRoom p w h m P t
room-kept R e =
    record { wide = R.wide; narrow = R.narrow; high = R.high; low = R.low; whole = R.whole; ones = R.ones; few = R.few; valid = R.valid; room = (let r = R.room in omega arith) }

pub frame-kept : {w h P : ℕ} {m s t : List ℕ} → FrameRoom w h m P s → length t ≡ length s → FrameRoom w h m P t
frame-kept F e = record { wide = F.wide; narrow = F.narrow; high = F.high; low = F.low; whole = F.whole; few = F.few; room = (let r = F.room in omega arith) }

module _ {w h P : ℕ} {m s : List ℕ} (F : FrameRoom w h m P s) where
  -- the dots of the largest frame
  pub plan-dots : w * h ≤ 402595842
  plan-dots = let a = mul-le-mul_right h F.narrow in let l = F.low in omega arith

  pub plan-across : w ≤ w * h
  plan-across = let a = mul-le-mul_left w F.high in omega arith

  pub plan-down : h ≤ w * h
  plan-down = let a = mul-le-mul_right h F.wide in omega arith

  -- the turns of all rows
  pub plan-turns : h * row_words w ≤ 2 * (w * h)
  plan-turns =
      let a : h * row_words w ≤ h * suc w = mul-le-mul_left h (let e : row_words w ≤ suc w = omega arith in e) in
      let b = mul_comm h (suc w) in
      let c = suc-mul w h in
      let d = plan-down in
      omega arith

  pub plan-extract : PlaneRoom w h m s
  plan-extract =
      let d = plan-dots in let t = plan-turns in let r = F.room in let n = F.narrow in let l = F.low in
      record { wide = F.wide; narrow = omega arith; low = omega arith; dots = omega arith; whole = F.whole; room = omega arith }

  -- runs and their numbers end before the counts by height
  pub plan-runs : {k : List ℕ} {t : List ℕ} {c : ℕ} → HoldsRuns w h k t c → 3 * c ≤ 3 * (w * h)
  plan-runs H = let a = held-dots F.wide H in omega arith

  -- the marks with the counters from word `at` on before them
  pub plan-rulings : (at marks words : ℕ) → marks ≡ marks_at (w * h) - at → words ≡ length s - at → at + 2 * w ≤ marks_at (w * h) → at + 2 * h ≤ marks_at (w * h) → RulingsRoom w h (length m) marks words
  plan-rulings at marks words em ew aw ah =
      let d = plan-dots in let r = F.room in let n = F.narrow in let l = F.low in let x = plan-across in let y = plan-down in
      record {
        plane = record { wide = F.wide; narrow = omega arith; high = F.high; low = omega arith; few = omega arith; dots = F.whole; room = omega arith };
        before = omega arith;
        across = omega arith;
        down = omega arith;
        short = omega arith;
      }

-- What the stages ask by the plan

pub planned : (w h P : ℕ) → Planned (plan_of w h P)
planned w h P = record { dots_is = refl; marks_is = refl; horizontal_is = refl; vertical_is = refl; sizes_is = refl; kinds_is = refl; smears_is = refl; glyphs_is = refl }

module _ {f : Plan} (Q : Planned f) {m s : List ℕ} (F : FrameRoom f.width f.height m f.capacity s) where
  pub plan-marked : MarkedRoom f.width f.height m s f.marks
  plan-marked =
      let d = plan-dots F in let t = plan-turns F in let r = F.room in let n = F.narrow in let l = F.low in
      record { wide = F.wide; narrow = omega arith; low = omega arith; dots = omega arith; whole = F.whole; before = omega arith; room = omega arith }

  pub plan-sizes : {k : List ℕ} {c : ℕ} → HoldsRuns f.width f.height k s c → SizesRoom f.width f.height k s c f.capacity f.sizes
  plan-sizes H =
      let d = plan-dots F in let r = F.room in let n = F.narrow in let l = F.low in let a = plan-runs F H in
      record { wide = F.wide; narrow = omega arith; low = omega arith; dots = omega arith; few = F.few; held = H; before = omega arith; room = omega arith }

-- the runs of the dots that pass, with the marks where `passed` looks for them
pub marked-at : {f : Plan} → Planned f → {t : Test} {m s s' : List ℕ} {c : ℕ} → MarkedLeft t f.width f.height m s s' f.marks c
    → MarkedLeft t f.width f.height m s s' (marks_at (f.width * f.height)) c
marked-at {f} Q {t} {m} {s} {s'} {c} = subst (λ (k : ℕ). MarkedLeft t f.width f.height m s s' k c) Q.marks_is
