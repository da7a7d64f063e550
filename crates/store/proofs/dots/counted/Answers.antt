use Rattle.std.proofs.Common.{rules}
use mathlib.Core.Path.{◌≡◌}
use Prim.Native.Nat.{◌*◌}
use native.Mathlib.Omega.{arith}
use lib.ListN.{get_or}
use Rattle.memory.specs.rules.Lists.{count_if}
use Rattle.grouping.specs.rules.Readings.{listed}
use Rattle.store.specs.stages.Areas.{words_frame, words_kinds}
use Rattle.store.proofs.DotReads.{count_low}
use Rattle.store.proofs.dots.counted.Goals as goal

-- `store::dots::counted` meets its contract: a count of page dots is a word. Assumes nothing.

pub overflow_cast-result : goal.overflow_cast-result
overflow_cast-result c =
    let asked = listed (words_frame c.args.store.now) (words_kinds c.args.store.now c.args.kinds.now) c.args.kind c.args.r in
    let e : c.count_dots.result ≡ count_if asked (get_or c.args.store.now 1 0 * get_or c.args.store.now 2 0) = search rules in
    let l = count_low c.args.store.now c.args.kinds.now c.requires asked in
    omega arith
