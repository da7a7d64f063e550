use mathlib.Core.Path.{◌≡◌, ap, ◌∙◌, subst}
use mathlib.Core.List.{◌++◌}
use Prim.Native.Nat.{◌+◌, ◌-◌, ◌*◌, ◌<◌, min}
use native.Mathlib.Omega.{arith}
use borrow.Rule.Slice.PartMut.{put_mid}
use lib.ListN.{length, take, drop, length-take, length-drop}
use Rattle.memory.specs.rules.Lists.{table}
use Rattle.memory.proofs.TableLaws.{table_filled}
use Rattle.memory.proofs.PartLaws.{part_filled}
use Rattle.levelling.specs.stages.Entries.{entry_of}
use Rattle.levelling.proofs.ShearTests.{shear-filled}
use Rattle.levelling.proofs.shears.fill_shear.Goals as goal

pub loop-step-init : goal.loop-step-init
unfolding table
loop-step-init c =
    let s = c.new-shear.result in
    let none : 0 ≡ min 0 c.args.n = omega arith in
    ap (λ z. table (entry_of s.which s.slope s.least) z ++ drop z c.args.out.now) none

pub loop-step-preserved : goal.loop-step-preserved
loop-step-preserved c =
    let s = c.new-shear.result in
    let f = entry_of s.which s.slope s.least in
    let from = c.loop-step.step * 16 in
    let m = c.min-m.result in
    let v = c.fill_entries.new.out in
    let below : from < c.args.n = omega arith in
    let so_far : min from c.args.n ≡ from = omega arith in
    let then : from + m ≡ min ((c.loop-step.step + 1) * 16) c.args.n = omega arith in
    let k : from + m - from ≡ m = omega arith in
    let l : length (take (from + m - from) (drop from c.loop-step.out)) ≡ m = simp (length-take, length-drop) (omega (arith, c.requires.count)) in
    subst (λ z. put_mid from (from + m - from) c.loop-step.out v ≡ table f z ++ drop z c.args.out.now) then
    ((λ z. put_mid from (k z) c.loop-step.out v) ∙ part_filled f c.args.out.now c.loop-step.out v from m (subst (λ z. c.loop-step.out ≡ table f z ++ drop z c.args.out.now) so_far c.loop-step.invariant) (c.fill_entries.ensures ∙ ap (table _) l))

pub returns : goal.returns
returns c =
    table_filled _ c.args.out.now c.loop-step.out _ (min (c.loop-step.step * 16) c.args.n) c.args.n c.loop-step.invariant (omega arith)
    (shear-filled c.new-shear.result c.args.which c.args.slope c.args.n c.requires.slope c.requires.count.0 c.requires.count.1 c.new-shear.ensures)
