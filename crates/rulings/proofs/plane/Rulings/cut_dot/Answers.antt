use mathlib.Core.Path.{refl, sym, ap, subst, ◌∙◌}
use mathlib.Core.Bool.{true≢false}
use Prim.Native.Nat.{◌+◌}
use lib.ListN.{get_or, set, drop}
use Rattle.rulings.specs.stages.Sweeps.{spot_of, Cached}
use Rattle.extents.proofs.OverLaws.{front-put, front-put-add}
use Rattle.rulings.proofs.SweepLaws.{dot-cut, dot-thick, dot-blank}
use Rattle.rulings.proofs.plane.Rulings.cut_dot.Goals as goal

pub returns-then-thickness-self : goal.returns-then-thickness-self
returns-then-thickness-self c =
    let a = c.args in
    let p = c.requires in
    let f = front-put-add a.self.marks c.spot.result 1 a.words.now c.extent_across-thickness.new.cache p.5 c.words-1.given.1 in (
      f.1
          ∙ (ap (λ k. set (drop a.self.marks a.words.now) k (get_or (drop a.self.marks a.words.now) k 0 + 1)) c.spot.ensures
          ∙ dot-cut a.self.plane.sweep a.self.plane.ink.now a.self.thick_max a.i a.o c.extent_across-thickness.result (set (drop a.self.marks a.words.now) (spot_of a.self.plane.sweep a.i a.o) (get_or (drop a.self.marks a.words.now) (spot_of a.self.plane.sweep a.i a.o) 0 + 1)) (drop a.self.marks a.words.now) (sym c.is_ink.ensures ∙ c.if-is_ink.true) c.extent_across-thickness.ensures.0 c.if-thickness-self.true),
      subst (Cached a.self.plane.sweep a.self.plane.ink.now a.self.thick_max a.o) (sym f.0) c.extent_across-thickness.ensures.1,
      λ e. absurd (true≢false e),
    )

pub returns-else-thickness-self : goal.returns-else-thickness-self
returns-else-thickness-self c =
    let a = c.args in
    let p = c.requires in
    let f = front-put a.self.marks a.words.now c.extent_across-thickness.new.cache p.5 c.words-1.given.1 in (
      f.1
          ∙ dot-thick a.self.plane.sweep a.self.plane.ink.now a.self.thick_max a.i a.o c.extent_across-thickness.result _ (drop a.self.marks a.words.now) (sym c.is_ink.ensures ∙ c.if-is_ink.true) c.extent_across-thickness.ensures.0 c.if-thickness-self.false,
      subst (Cached a.self.plane.sweep a.self.plane.ink.now a.self.thick_max a.o) (sym f.0) c.extent_across-thickness.ensures.1,
      λ e. f.1,
    )

pub returns-else-is_ink : goal.returns-else-is_ink
returns-else-is_ink c =
    let a = c.args in
    (dot-blank a.self.plane.sweep a.self.plane.ink.now a.self.thick_max a.i a.o 0 _ (drop a.self.marks a.words.now) (sym c.is_ink.ensures ∙ c.if-is_ink.false), c.requires.4, λ e. refl)
