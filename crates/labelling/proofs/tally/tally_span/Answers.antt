use native.Mathlib.Omega.{arith}
use mathlib.Core.Path.{refl, sym, ◌∙◌, subst}
use Prim.Native.Nat.{◌-◌, ◌*◌}
use Rattle.labelling.specs.stages.Tallying.{Small}
use Rattle.labelling.proofs.TallyLaws.{nine-long, span-tallied, held_none, held-words}
use Rattle.labelling.proofs.tally.tally_span.Goals as goal

pub returns-then-count-number : goal.returns-then-count-number
returns-then-count-number c = (span-tallied c.args.components.now c.args.number c.args.count c.args.x c.args.span.last c.args.span.dots c.args.span.sum c.args.y c.none.result c.absorb_span-after.result c.encode.new.words (c.none.ensures ∙ held_none c.args.components.now c.args.number c.args.count c.if-count-number.true) c.absorb_span-after.ensures c.encode.ensures, omega (arith, c.if-count-number.true))

pub absorb_words-requires : goal.absorb_words-requires
absorb_words-requires c = let p = c.requires in (nine-long ((c.args.number - 1) * 9) c.args.components.now (omega arith), omega arith, omega arith, omega arith, subst Small (sym (held-words c.args.components.now c.args.number c.args.count c.if-count-number.false)) p.small)

pub returns : goal.returns
returns c = (span-tallied c.args.components.now c.args.number c.args.count c.args.x c.args.span.last c.args.span.dots c.args.span.sum c.args.y _ _ c.absorb_words.new.words (held-words c.args.components.now c.args.number c.args.count c.if-count-number.false) refl c.absorb_words.ensures, omega (arith, c.if-count-number.false))
