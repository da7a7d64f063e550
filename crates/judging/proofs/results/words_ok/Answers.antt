use mathlib.Core.Path.{ap, ◌∙◌}
use native.Mathlib.Omega.{arith}
use Rattle.judging.specs.rules.Header.{lists_at, part}
use Rattle.judging.specs.stages.Judged.{words_ok}
use Rattle.judging.proofs.ResultLaws.{words-no, words-few, words-yes}
use Rattle.judging.proofs.results.words_ok.Goals as goal

-- `judging::results::words_ok` meets its contract. Assumes nothing.

pub returns-then-not-unit-few : goal.returns-then-not-unit-few
returns-then-not-unit-few c = words-no c.args.store.now c.float_at-x.result c.float_at-x.ensures c.args.w c.args.h c.args.capacity (lists_at c.args.page_w c.args.h) c.unit_ok-unit.result c.counts_ok-few.result c.unit_ok-unit.ensures c.counts_ok-few.ensures c.if-not-unit-few.true

pub lists_ok-requires : goal.lists_ok-requires
lists_ok-requires c =
    let f = words-few c.args.store.now c.float_at-x.result c.float_at-x.ensures c.args.w c.args.h c.args.capacity c.lists_at-at.result c.unit_ok-unit.result c.counts_ok-few.result c.unit_ok-unit.ensures c.counts_ok-few.ensures c.if-not-unit-few.false in
    let p = c.requires in
    record { room = (omega (arith, p.4, c.lists_at-at.ensures), omega (arith, p.0, p.2, c.lists_at-at.ensures), p.1, p.2, p.3); counts = (f.0, f.1, f.2, f.3, f.4) }

pub returns : goal.returns
returns c = words-yes c.args.store.now c.float_at-x.result c.float_at-x.ensures c.args.w c.args.h c.args.capacity c.lists_at-at.result c.unit_ok-unit.result c.counts_ok-few.result c.unit_ok-unit.ensures c.counts_ok-few.ensures c.if-not-unit-few.false c.lists_ok.result c.lists_ok.ensures ∙ ap (λ z. words_ok c.args.w c.args.h c.args.capacity (part 10 15 c.args.store.now) z c.args.store.now) c.lists_at-at.ensures
