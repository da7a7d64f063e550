use mathlib.Core.Path.{◌∙◌, ◌≡◌, subst, sym}
use Prim.Native.Nat.{◌+◌}
use native.Mathlib.Omega.{arith}
use lib.ListN.{drop}
use Rattle.rulings.specs.stages.Sweeps.{Risen}
use Rattle.memory.proofs.StoredLaws.{within-drop}
use Rattle.rulings.proofs.ColumnLaws.{counted-kept, recounted-counted, risen-still}
use Rattle.rulings.proofs.plane.Rulings.mark_row.Goals as goal

pub returns-then-any_reached : goal.returns-then-any_reached
returns-then-any_reached c =
    let a = c.args in
    let p = c.requires in
    let t = c.count_row.new.words in
    let R = c.count_row.ensures in
    let D : drop a.self.marks t ≡ drop a.self.marks a.words.now = within-drop {a = a.a} {e = a.b} (record { len = c.words-1.given; before = R.below; past = R.above }) a.self.marks (omega arith) in
    let M = c.mark_reached.ensures in (
      subst (λ r. Risen a.self.plane.sweep a.self.plane.ink.now a.self.run_min a.self.thick_max a.a a.b a.y (a.y + 1) r (drop a.self.marks c.mark_reached.new.words)) D M.0,
      counted-kept a.self.plane.sweep a.self.plane.ink.now a.a a.b (a.y + 1) a.self.marks t c.mark_reached.new.words (omega arith) M.1 (recounted-counted a.self.plane.sweep a.self.plane.ink.now a.a a.b a.y a.words.now t R),
      λ e. M.2 e ∙ D,
    )

pub returns : goal.returns
returns c =
    let a = c.args in
    let p = c.requires in
    let t = c.count_row.new.words in
    let R = c.count_row.ensures in
    let D : drop a.self.marks t ≡ drop a.self.marks a.words.now = within-drop {a = a.a} {e = a.b} (record { len = c.words-1.given; before = R.below; past = R.above }) a.self.marks (omega arith) in (
      subst (λ r. Risen a.self.plane.sweep a.self.plane.ink.now a.self.run_min a.self.thick_max a.a a.b a.y (a.y + 1) (drop a.self.marks a.words.now) r) (sym D)
          (risen-still a.self.plane.sweep a.self.plane.ink.now a.self.run_min a.self.thick_max a.a a.b a.y (drop a.self.marks a.words.now) (λ o h k. let x = R.inside o h k in let z = c.any_reached.ensures c.if-any_reached.false o h k in omega arith)),
      recounted-counted a.self.plane.sweep a.self.plane.ink.now a.a a.b a.y a.words.now t R,
      λ e. D,
    )
