use Rattle.rulings.proofs.SweepLaws.{still_both}
use mathlib.Core.Path.{◌∙◌, ◌≡◌, refl, subst, sym}
use Prim.Native.Nat.{◌+◌, ◌-◌}
use native.Mathlib.Omega.{arith}
use borrow.Rule.Slice.PartMut.{put_mid}
use lib.ListN.{drop, length}
use Rattle.rulings.specs.stages.Sweeps.{Risen, UpTo}
use Rattle.memory.proofs.StoredLaws.{within-drop, stored_at, stored-filled}
use Rattle.rulings.proofs.ColumnLaws.{counted-zero, risen-none, risen-places, risen-small}
use Rattle.rulings.proofs.plane.Rulings.mark_rows.Goals as goal

pub loop-y-init : goal.loop-y-init
loop-y-init c =
    let a = c.args in
    let p = c.requires in
    let s = put_mid a.a (a.b - a.a) a.words.now c.fill.new.dst in
    let f = stored-filled 0 a.a a.b a.words.now c.fill.new.dst (omega arith) (omega arith) c.fill.ensures in
    (risen-none a.self.plane.sweep a.self.plane.ink.now a.self.run_min a.self.thick_max a.a a.b 0 (drop a.self.marks s), counted-zero a.self.plane.sweep a.self.plane.ink.now a.a a.b s (λ o k b. stored_at f o k (omega arith)), refl, λ e. refl)

pub mark_row-found-requires : goal.mark_row-found-requires
mark_row-found-requires c =
    let a = c.args in
    let p = c.requires in
    let s = put_mid a.a (a.b - a.a) a.words.now c.fill.new.dst in
    let f = stored-filled 0 a.a a.b a.words.now c.fill.new.dst (omega arith) (omega arith) c.fill.ensures in
    let D : drop a.self.marks s ≡ drop a.self.marks a.words.now = within-drop f.within a.self.marks (omega arith) in (
      p.0,
      p.1,
      p.2,
      omega arith,
      risen-small a.self.plane.sweep a.self.plane.ink.now a.self.run_min a.self.thick_max a.a a.b 0 c.loop-y.y 4 (drop a.self.marks s) (drop a.self.marks c.loop-y.words) c.loop-y.invariant.0 (subst (λ r. UpTo a.self.plane.sweep (length a.self.plane.ink.now) r 4) (sym D) p.3),
      c.loop-y.invariant.1,
      omega (arith, c.loop-y.invariant.2, f.within.len, p.4),
    )

pub loop-y-preserved : goal.loop-y-preserved
loop-y-preserved c =
    let a = c.args in
    let p = c.requires in
    let s = put_mid a.a (a.b - a.a) a.words.now c.fill.new.dst in
    let f = stored-filled 0 a.a a.b a.words.now c.fill.new.dst (omega arith) (omega arith) c.fill.ensures in (
      risen-places a.self.plane.sweep a.self.plane.ink.now a.self.run_min a.self.thick_max a.a a.b 0 c.loop-y.y (c.loop-y.y + 1) (drop a.self.marks s) (drop a.self.marks c.loop-y.words) _ c.loop-y.invariant.0 c.mark_row-found.ensures.0,
      c.mark_row-found.ensures.1,
      omega arith,
      still_both c.loop-y.found c.mark_row-found.result _ (drop a.self.marks c.loop-y.words) _ c.loop-y.invariant.3 c.mark_row-found.ensures.2,
    )

pub returns : goal.returns
returns c =
    let a = c.args in
    let p = c.requires in
    let s = put_mid a.a (a.b - a.a) a.words.now c.fill.new.dst in
    let f = stored-filled 0 a.a a.b a.words.now c.fill.new.dst (omega arith) (omega arith) c.fill.ensures in
    let D : drop a.self.marks s ≡ drop a.self.marks a.words.now = within-drop f.within a.self.marks (omega arith) in
    let e : c.loop-y.y ≡ a.self.plane.sweep.inner = omega arith in
    let M = subst (λ k. Risen a.self.plane.sweep a.self.plane.ink.now a.self.run_min a.self.thick_max a.a a.b 0 k (drop a.self.marks s) (drop a.self.marks c.loop-y.words)) e c.loop-y.invariant.0 in
    (subst (λ r. Risen a.self.plane.sweep a.self.plane.ink.now a.self.run_min a.self.thick_max a.a a.b 0 a.self.plane.sweep.inner r (drop a.self.marks c.loop-y.words)) D M, λ e. c.loop-y.invariant.3 e ∙ D)
