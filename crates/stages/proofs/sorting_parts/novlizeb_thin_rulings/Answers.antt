use mathlib.Core.Bool.{not}
use native.Mathlib.Omega.{arith}
use mathlib.Core.Path.{ap, ◌∙◌}
use Prim.Native.Nat.{◌-◌}
use lib.ListN.{length}
use Rattle.stages.specs.rules.Sorting.{rulings_fit}
use Rattle.stages.proofs.RulingLaws.{rulings-held, rulings-refused, rulings-marked}
use Rattle.stages.proofs.sorting_parts.novlizeb_thin_rulings.Goals as goal

-- `stages::sorting_parts::novlizeb_thin_rulings` promises what `rulings::mark_rulings` does, where all fits. Assumes nothing.

pub returns-then-not-rulings_fit : goal.returns-then-not-rulings_fit
returns-then-not-rulings_fit c =
    let a = c.args in
    rulings-refused (rulings_fit (length a.ink.now) a.width a.height a.run_min (length a.words.now - a.marks) a.marks) _ _ _ _ _ _ _ c.rulings_fit.result (c.rulings_fit.ensures ∙ ap (λ k. rulings_fit (length a.ink.now) a.width a.height a.run_min k a.marks) c.words_behind-behind.ensures) (ap not c.if-not-rulings_fit.true)

pub mark_rulings-requires : goal.mark_rulings-requires
mark_rulings-requires c =
    let a = c.args in
    rulings-held (length a.ink.now) a.width a.height a.run_min a.marks (length a.words.now) c.rulings_fit.result (omega (arith, c.ranges.marks.fits)) (c.rulings_fit.ensures ∙ ap (λ k. rulings_fit (length a.ink.now) a.width a.height a.run_min k a.marks) c.words_behind-behind.ensures) (ap not c.if-not-rulings_fit.false)

pub returns : goal.returns
returns c =
    let a = c.args in
    rulings-marked (rulings_fit (length a.ink.now) a.width a.height a.run_min (length a.words.now - a.marks) a.marks) _ _ _ _ _ _ _ c.rulings_fit.result (c.rulings_fit.ensures ∙ ap (λ k. rulings_fit (length a.ink.now) a.width a.height a.run_min k a.marks) c.words_behind-behind.ensures) _ (ap not c.if-not-rulings_fit.false) c.mark_rulings.ensures.marked
