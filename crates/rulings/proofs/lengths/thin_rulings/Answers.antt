use mathlib.Core.Path.{sym, subst}
use Prim.Native.Nat.{ℕ, ◌≤◌}
use Rattle.rulings.specs.rules.Rulings.{run_min}
use Rattle.rulings.specs.stages.Marks.{RulingsMarked}
use Rattle.rulings.proofs.RulingMasks.{two-least}
use Rattle.rulings.proofs.lengths.thin_rulings.Goals as goal

pub mark_rulings-requires : goal.mark_rulings-requires
mark_rulings-requires c = let a = c.args in (c.requires, subst (λ (k : ℕ). 2 ≤ k) (sym c.run_min-run.ensures) (two-least a.sheet a.unit))

pub returns : goal.returns
returns c =
    let a = c.args in
    let E = c.mark_rulings.ensures in
    let s = c.mark_rulings.new.words in
    subst (λ (k : ℕ). RulingsMarked (run_min a.sheet a.unit) k a.width a.height a.ink.now a.marks a.words.now s c.mark_rulings.result) c.thick_max-thick.ensures
    (subst (λ (k : ℕ). RulingsMarked k c.thick_max-thick.result a.width a.height a.ink.now a.marks a.words.now s c.mark_rulings.result) c.run_min-run.ensures E)
