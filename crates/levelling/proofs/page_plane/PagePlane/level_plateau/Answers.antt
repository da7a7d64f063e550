use mathlib.Core.Path.{refl, ◌∙◌}
use native.Mathlib.Omega.{arith}
use lib.ListN.{length}
use Rattle.levelling.proofs.RowLaws.{plateau-above, plateau-below, plateau-copied}
use Rattle.levelling.proofs.page_plane.PagePlane.level_plateau.Goals as goal
use Rattle.levelling.proofs.page_plane.PagePlane.level_plateau.Goals.{then-r-s-via-then-r-s, then-r-s-via-else-r-s+then-self-r}

pub returns-then-r-s : goal.returns-then-r-s
returns-then-r-s c =
    let a = c.args in
    let p = a.self.now in
    elim c.then-r-s.branch [
      | then-r-s-via-then-r-s w ↦ c.fill.ensures ∙ plateau-above p.page.now p.fill p.sides.page_w p.sides.page_h a.r a.s a.c (length a.out.now) w.if-r-s.true
      | then-r-s-via-else-r-s+then-self-r w ↦ c.fill.ensures ∙ plateau-below p.page.now p.fill p.sides.page_w p.sides.page_h a.r a.s a.c (length a.out.now) w.if-r-s.false w.if-self-r.true
    ]

pub returns : goal.returns
returns c =
    let a = c.args in
    let p = a.self.now in
    c.copy_columns.ensures ∙ plateau-copied p.page.now p.fill p.sides.page_w p.sides.page_h a.r a.s a.c (length a.out.now) a.out.now (omega arith) (omega arith) c.requires.inside c.requires.page_size refl
