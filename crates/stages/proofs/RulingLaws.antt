-- What the test of thin rulings' arguments gives. Assumes nothing.
use mathlib.Core.Path.{◌≡◌, refl, sym, ap, ◌∙◌}
use mathlib.Core.Bool.{Bool, true, false, not, cond, ◌&&◌, true≢false}
use mathlib.Core.List.{List}
use Prim.Native.Nat.{ℕ, ◌+◌, ◌-◌, ◌*◌, ◌≤◌, ◌<◌}
use native.Mathlib.Nat.{mul-pos}
use native.Mathlib.Omega.{arith}
use lib.Dec.{T, eqb, ltb, leb, ltb→lt, leb→le, eqb→eq}
use lib.ListN.{drop}
use Rattle.memory.specs.rules.Limits.{max_mask_side, max_mask_dots}
use Rattle.memory.specs.rules.Lists.{table}
use Rattle.memory.specs.rules.Words.{over}
use Rattle.rounding.proofs.Tests.{yes}
use Rattle.memory.specs.rules.Masks.{is_mask_side}
use Rattle.rulings.specs.stages.Marks.{cut_mark}
use Rattle.extents.specs.stages.Scans.{MaskFits}
use Rattle.rulings.specs.stages.Sweeps.{RulingsRoom}
use Rattle.stages.specs.rules.Sorting.{rulings_fit, mark_of, RulingsTold}
use Rattle.stages.proofs.LevelLaws.{is_true, is_false, split}

pub record Fit (mask w h run_min marks counters : ℕ) : Type 0 where
  pub plane : MaskFits w h mask marks
  pub run : 2 ≤ run_min
  pub across : w + w ≤ counters
  pub down : h + h ≤ counters

fit_of : (mask w h run_min marks counters : ℕ) → T (rulings_fit mask w h run_min marks counters) → Fit mask w h run_min marks counters
unfolding rulings_fit
fit_of mask w h run_min marks counters t =
    let a = is_mask_side w in
    let b = is_mask_side h in
    let c = leb (w * h) max_mask_dots in
    let d = eqb mask (w * h) in
    let e = leb (w * h) marks in
    let f = leb 2 run_min in
    let g = leb (w + w) counters in
    let i = leb (h + h) counters in
    let t7 = split (a && b && c && d && e && f && g) i t in
    let t6 = split (a && b && c && d && e && f) g t7.0 in
    let t5 = split (a && b && c && d && e) f t6.0 in
    let t4 = split (a && b && c && d) e t5.0 in
    let t3 = split (a && b && c) d t4.0 in
    let t2 = split (a && b) c t3.0 in
    let t1 = split a b t2.0 in
    let x = split (ltb 0 w) (leb w max_mask_side) t1.0 in
    let y = split (ltb 0 h) (leb h max_mask_side) t1.1 in
    record {
      plane = record {
        wide = ltb→lt 0 w x.0;
        narrow = leb→le w max_mask_side x.1;
        high = ltb→lt 0 h y.0;
        low = leb→le h max_mask_side y.1;
        few = leb→le (w * h) max_mask_dots t2.1;
        dots = eqb→eq mask (w * h) t3.1;
        room = leb→le (w * h) marks t4.1;
      };
      run = leb→le 2 run_min t5.1;
      across = leb→le (w + w) counters t6.1;
      down = leb→le (h + h) counters t7.1;
    }

-- the test as the code makes it, from what it was told of the sides and of their product
pub fit_is :
    (mask w h run_min marks counters d : ℕ) (a b : Bool) → a ≡ is_mask_side w → b ≡ is_mask_side h → d ≡ w * h
    → (a && b && leb d max_mask_dots && eqb mask d && leb d marks && leb 2 run_min && leb (w + w) counters && leb (h + h) counters) ≡ rulings_fit mask w h run_min marks counters
unfolding rulings_fit
fit_is mask w h run_min marks counters d a b e f g =
    ap (λ (t : Bool). t && b && leb d max_mask_dots && eqb mask d && leb d marks && leb 2 run_min && leb (w + w) counters && leb (h + h) counters) e
    ∙ ap (λ (t : Bool). is_mask_side w && t && leb d max_mask_dots && eqb mask d && leb d marks && leb 2 run_min && leb (w + w) counters && leb (h + h) counters) f
    ∙ ap
    (λ (k : ℕ). is_mask_side w && is_mask_side h && leb k max_mask_dots && eqb mask k && leb k marks && leb 2 run_min && leb (w + w) counters && leb (h + h) counters)
    g

pub rulings-held :
    (mask w h run_min marks words : ℕ) (b : Bool) → marks ≤ 4294967295 → b ≡ rulings_fit mask w h run_min (words - marks) marks → not b ≡ false
    → RulingsRoom w h mask marks words × 2 ≤ run_min
rulings-held mask w h run_min marks words b l e n =
    let f = fit_of mask w h run_min (words - marks) marks (yes (sym e ∙ is_true b n)) in
    let z : 0 < w * h = mul-pos f.plane.wide f.plane.high in
    let r = f.plane.room in
    (record { plane = f.plane; before = omega arith; across = f.across; down = f.down; short = l }, f.run)

module _ (fit : Bool) (run_min thick_max w h marks : ℕ) (m words : List ℕ) (b : Bool) (e : b ≡ fit) where
  pub rulings-refused : not b ≡ true → RulingsTold fit run_min thick_max w h marks m words false words
  rulings-refused n =
      let f : fit ≡ false = sym e ∙ is_false b n in
      record {
        answer = sym f;
        marked = sym (ap (λ (t : Bool). cond t (over (table (mark_of run_min thick_max w h m) (w * h)) (drop marks words)) (drop marks words)) f);
        kept = λ _. refl;
      }

  pub rulings-marked : (words' : List ℕ) → not b ≡ false → drop marks words' ≡ over (table (cut_mark run_min thick_max w h m) (w * h)) (drop marks words)
      → RulingsTold fit run_min thick_max w h marks m words true words'
  unfolding cut_mark mark_of
  rulings-marked words' n a =
      let f : fit ≡ true = sym e ∙ is_true b n in
      record {
        answer = sym f;
        marked = a ∙ sym (ap (λ (t : Bool). cond t (over (table (mark_of run_min thick_max w h m) (w * h)) (drop marks words)) (drop marks words)) f);
        kept = λ k. absurd (true≢false (sym f ∙ k));
      }
