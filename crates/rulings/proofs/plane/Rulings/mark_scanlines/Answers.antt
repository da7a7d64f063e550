use native.Mathlib.Omega.{arith}
use mathlib.Core.Path.{◌≡◌, refl, subst, ◌∙◌}
use Prim.Native.Nat.{◌+◌, ◌*◌, ◌-◌, ◌≤◌}
use borrow.Rule.Slice.PartMut.{put_mid}
use lib.ListN.{length, take, drop}
use lib.Seq.{get_or-take, length-take-le}
use Rattle.rulings.specs.stages.Sweeps.{is_ruling, Marked}
use Rattle.memory.proofs.StoredLaws.{within-drop, stored_at, stored-filled}
use Rattle.rulings.proofs.SweepLaws.{still_both, marked-none, unmarked-later, cached-none, cached-later, scanlines-loop}
use Rattle.rulings.proofs.plane.Rulings.mark_scanlines.Goals as goal

pub loop-o-init : goal.loop-o-init
loop-o-init c =
    let a = c.args in
    let f = stored-filled 0 0 a.self.plane.sweep.inner a.words.now c.fill.new.dst (omega arith) (omega arith) c.fill.ensures in
    let r : a.self.plane.sweep.inner + a.self.plane.sweep.inner ≤ a.self.marks = c.args.self.cache in
    let z : a.self.marks ≤ length a.words.now = c.requires.1 in (
      marked-none a.self.plane.sweep (length a.self.plane.ink.now) (is_ruling a.self.plane.sweep a.self.plane.ink.now a.self.run_min a.self.thick_max) 1 _ _ _ (λ i j li lj x y. absurd (omega arith)),
      cached-none a.self.plane.sweep a.self.plane.ink.now a.self.thick_max (take a.self.marks (put_mid 0 (a.self.plane.sweep.inner - 0) a.words.now c.fill.new.dst)) (omega (arith, length-take-le a.self.marks (put_mid 0 (a.self.plane.sweep.inner - 0) a.words.now c.fill.new.dst) (omega (arith, f.within.len)))) (λ i l. get_or-take a.self.marks (put_mid 0 (a.self.plane.sweep.inner - 0) a.words.now c.fill.new.dst) i 0 (omega arith) ∙ stored_at f i (omega arith) (omega arith)),
      refl,
      λ e. refl,
    )

pub mark_scanline-found-requires : goal.mark_scanline-found-requires
mark_scanline-found-requires c =
    let p = c.requires in
    let a = c.args in
    let f = stored-filled 0 0 a.self.plane.sweep.inner a.words.now c.fill.new.dst (omega arith) (omega arith) c.fill.ensures in (
      omega arith,
      unmarked-later a.self.plane.sweep (length a.self.plane.ink.now) (is_ruling a.self.plane.sweep a.self.plane.ink.now a.self.run_min a.self.thick_max) 1 (drop a.self.marks a.words.now) (drop a.self.marks c.loop-o.words) 0 (c.loop-o.o * a.self.plane.sweep.inner) (omega arith)
          (subst (λ s. Marked a.self.plane.sweep (length a.self.plane.ink.now) (is_ruling a.self.plane.sweep a.self.plane.ink.now a.self.run_min a.self.thick_max) 1 s (drop a.self.marks c.loop-o.words) 0 (c.loop-o.o * a.self.plane.sweep.inner)) (within-drop f.within a.self.marks (omega arith)) c.loop-o.invariant.0) p.0,
      c.loop-o.invariant.1,
      omega (arith, c.loop-o.invariant.2, f.within.len, p.1),
    )

pub loop-o-preserved : goal.loop-o-preserved
loop-o-preserved c =
    let a = c.args in (
      scanlines-loop a.self.plane.sweep (length a.self.plane.ink.now) (is_ruling a.self.plane.sweep a.self.plane.ink.now a.self.run_min a.self.thick_max) 1 c.loop-o.o _ (drop a.self.marks c.loop-o.words) _ c.loop-o.invariant.0 c.mark_scanline-found.ensures.0,
      cached-later a.self.plane.sweep a.self.plane.ink.now a.self.thick_max c.loop-o.o (c.loop-o.o + 1) _ (omega arith) c.mark_scanline-found.ensures.1,
      omega arith,
      still_both c.loop-o.found c.mark_scanline-found.result _ (drop a.self.marks c.loop-o.words) _ c.loop-o.invariant.3 c.mark_scanline-found.ensures.2,
    )

pub returns : goal.returns
returns c =
    let a = c.args in
    let e : c.loop-o.o ≡ a.self.plane.sweep.outer = omega arith in
    let f = stored-filled 0 0 a.self.plane.sweep.inner a.words.now c.fill.new.dst (omega arith) (omega arith) c.fill.ensures in
    let M = subst (λ k. Marked a.self.plane.sweep (length a.self.plane.ink.now) (is_ruling a.self.plane.sweep a.self.plane.ink.now a.self.run_min a.self.thick_max) 1 (drop a.self.marks (put_mid 0 (a.self.plane.sweep.inner - 0) a.words.now c.fill.new.dst)) (drop a.self.marks c.loop-o.words) 0 (k * a.self.plane.sweep.inner)) e c.loop-o.invariant.0 in
    let D = (within-drop f.within a.self.marks (omega arith)) in
    (subst (λ s. Marked a.self.plane.sweep (length a.self.plane.ink.now) (is_ruling a.self.plane.sweep a.self.plane.ink.now a.self.run_min a.self.thick_max) 1 s (drop a.self.marks c.loop-o.words) 0 (a.self.plane.sweep.outer * a.self.plane.sweep.inner)) D M, λ e. c.loop-o.invariant.3 e ∙ D)
