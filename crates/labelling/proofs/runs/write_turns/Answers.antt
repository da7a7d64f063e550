use native.Mathlib.Omega.{arith}
use Prim.Native.Nat.{◌+◌, ◌*◌}
use mathlib.Core.Path.{◌≡◌, refl, subst}
use Rattle.labelling.specs.stages.Extraction.{ToldWritten}
use Rattle.labelling.proofs.ToldLaws.{written_none, written-asks, four-inside, written_one, written-two, written-three, written-four}
use Rattle.labelling.proofs.runs.write_turns.Goals as goal

pub loop-i-init : goal.loop-i-init
loop-i-init c = (omega arith, written_none _ _ _ _, (0, refl))

pub write_turn-k-requires : goal.write_turn-k-requires
write_turn-k-requires c = written-asks c.loop-i.invariant.1 c.requires.0 c.loop-i-test.true

pub write_turn-k-requires-in-loop-i : goal.write_turn-k-requires-in-loop-i
write_turn-k-requires-in-loop-i c = let h = four-inside c.loop-i.invariant.2 c.requires.1 c.loop-i-test.true in written-asks (written_one c.loop-i.invariant.1 c.requires.0 h c.write_turn-k.ensures) c.requires.0 (omega arith)

pub write_turn-k-requires-in-loop-i-2 : goal.write_turn-k-requires-in-loop-i-2
write_turn-k-requires-in-loop-i-2 c = let h = four-inside c.loop-i.invariant.2 c.requires.1 c.loop-i-test.true in written-asks (written-two c.loop-i.invariant.1 c.requires.0 h c.write_turn-k.ensures c.write_turn-k-in-loop-i.ensures) c.requires.0 (omega arith)

pub write_turn-k-requires-in-loop-i-3 : goal.write_turn-k-requires-in-loop-i-3
write_turn-k-requires-in-loop-i-3 c = let h = four-inside c.loop-i.invariant.2 c.requires.1 c.loop-i-test.true in written-asks (written-three c.loop-i.invariant.1 c.requires.0 h c.write_turn-k.ensures c.write_turn-k-in-loop-i.ensures c.write_turn-k-in-loop-i-2.ensures) c.requires.0 h

pub loop-i-preserved : goal.loop-i-preserved
loop-i-preserved c =
    let f = c.loop-i.invariant.2 in
    let h = four-inside f c.requires.1 c.loop-i-test.true in
    let q = f.0 in
    let e : c.loop-i.i ≡ 4 * q = f.1 in
    (omega arith, written-four c.loop-i.invariant.1 c.requires.0 h c.write_turn-k.ensures c.write_turn-k-in-loop-i.ensures c.write_turn-k-in-loop-i-2.ensures c.write_turn-k-in-loop-i-3.ensures, (q + 1, omega arith))

pub returns-2 : goal.returns-2
returns-2 c = let h = four-inside c.loop-i.invariant.2 c.requires.1 c.loop-i-test.true in subst (λ z. ToldWritten c.args.told.now z c.args.start c.args.words.now c.write_turn-k-in-loop-i-3.new.words c.args.at c.write_turn-k-in-loop-i-3.result) (let e : c.loop-i.i + 4 ≡ c.args.n = omega arith in e) (written-four c.loop-i.invariant.1 c.requires.0 h c.write_turn-k.ensures c.write_turn-k-in-loop-i.ensures c.write_turn-k-in-loop-i-2.ensures c.write_turn-k-in-loop-i-3.ensures)
