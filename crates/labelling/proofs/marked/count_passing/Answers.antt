use borrow.Author.Rules.{rules}
use native.Mathlib.Omega.{arith}
use mathlib.Core.Path.{◌≡◌, ap, ◌∙◌}
use lib.ListN.{get_or, length}
use Prim.Native.Nat.{◌+◌}
use Rattle.memory.specs.rules.Masks.{is_ink}
use lib.Dec.{ltb}
use Rattle.std.proofs.lemmas.Slice.Zip.{zip_turn}
use mathlib.Core.Bool.{cond}
use mathlib.Core.List.{[], ◌∷◌, ◌++◌}
use Rattle.memory.specs.rules.Lists.{count_if}
use Rattle.std.proofs.lemmas.List.{length_push}
use Rattle.labelling.specs.stages.Marked.{passes, passing}
use Rattle.labelling.proofs.ExtractLaws.{ink-none}
use Rattle.labelling.proofs.MarkedLaws.{bit-least, passing-more}
use Rattle.labelling.proofs.marked.count_passing.Goals as goal

pub loop-byte-init : goal.loop-byte-init
loop-byte-init c = (omega arith, ink-none _)

pub loop-byte-preserved : goal.loop-byte-preserved
unfolding is_ink
loop-byte-preserved c =
    let t = zip_turn c.args.ink.now c.args.marks.now c.loop-byte.yielded _ c.loop-byte.byte-iterator c.next.new.self c.next.result (search rules) (search rules) c.loop-byte.yielded_by _ c.in-Some.is c.next.ensures.steps in
    let n = length c.loop-byte.yielded in
    let p : c.passes-count.result ≡ cond (passes c.args.test (ltb 0 (get_or c.args.ink.now n 0)) (get_or c.args.marks.now n 0)) 1 0 =
    c.passes-count.ensures ∙ (λ i. cond (passes c.args.test (ltb 0 (t.2 0 i)) (t.3 0 i)) 1 0) in
    let b = bit-least (passes c.args.test (ltb 0 (get_or c.args.ink.now n 0)) (get_or c.args.marks.now n 0)) in
    let z = length_push c.loop-byte.yielded (c.in-Some.byte, c.in-Some.mark) in (
      omega arith,
      passing-more c.args.test c.args.ink.now c.args.marks.now 32 n c.loop-byte.count c.passes-count.result (omega (arith, t.0)) c.loop-byte.invariant.1 p
          ∙ ap (count_if (is_ink (passing c.args.test c.args.ink.now c.args.marks.now 32))) (let e : n + 1 ≡ length (c.loop-byte.yielded ++ ((c.in-Some.byte, c.in-Some.mark) ∷ [])) = omega arith in e),
    )
