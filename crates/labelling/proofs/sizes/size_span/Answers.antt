use native.Mathlib.Omega.{arith}
use mathlib.Core.Path.{sym, ap, ◌∙◌, subst}
use Prim.Native.Nat.{◌-◌, ◌*◌, ◌≤◌}
use Rattle.memory.specs.rules.Limits.{max_mask_dots}
use Rattle.labelling.specs.stages.Sizes.{size_words}
use Rattle.labelling.proofs.SizeSweepLaws.{five-long, span-sized, size-new, size-there}
use Rattle.labelling.proofs.sizes.size_span.Goals as goal

pub returns-then-count-number : goal.returns-then-count-number
returns-then-count-number c = span-sized c.args.words.now c.args.number c.args.count c.args.x c.args.span.last c.args.span.dots c.args.y c.none.result c.write_size.new.words (c.none.ensures ∙ size-new c.args.words.now c.args.number c.args.count c.if-count-number.true) (c.write_size.ensures ∙ ap size_words c.absorb_span-after.ensures)

pub widen_size-requires : goal.widen_size-requires
widen_size-requires c = let p = c.requires in (five-long ((c.args.number - 1) * 5) c.args.words.now (omega arith), omega arith, subst (λ z. z.area ≤ max_mask_dots) (sym (size-there c.args.words.now c.args.number c.args.count c.if-count-number.false)) p.small)

pub returns : goal.returns
returns c = span-sized c.args.words.now c.args.number c.args.count c.args.x c.args.span.last c.args.span.dots c.args.y _ c.widen_size.new.words (size-there c.args.words.now c.args.number c.args.count c.if-count-number.false) c.widen_size.ensures
