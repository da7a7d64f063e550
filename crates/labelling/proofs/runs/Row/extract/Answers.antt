use native.Mathlib.Omega.{arith}
use Prim.Native.Nat.{◌+◌}
use native.Mathlib.Nat.{le_refl}
use lib.ListN.{length}
use Rattle.labelling.proofs.ExtractLaws.{scan-start, scan-asks, scan-blank, scan-room-end, scan-ink}
use Rattle.labelling.proofs.runs.Row.extract.Goals as goal

pub loop-x-init : goal.loop-x-init
loop-x-init c = scan-start c.requires

pub scan_four_chunks-k-requires : goal.scan_four_chunks-k-requires
scan_four_chunks-k-requires c = scan-asks c.loop-x.invariant (c.loop-x.x + 128) (omega arith) (omega (arith, c.loop-x-test.true, c.loop-x.invariant.upto))

pub scan_chunks-k-requires : goal.scan_chunks-k-requires
scan_chunks-k-requires c = scan-asks c.loop-x.invariant (length c.args.self.dots.now) c.loop-x.invariant.upto (le_refl _)

pub returns-then-k-eq0 : goal.returns-then-k-eq0
returns-then-k-eq0 c = scan-blank (c.scan_chunks-k.ensures.read c.args.words.now c.args.at c.loop-x.invariant) (le_refl _) c.if-k-eq0.true

pub bounds-words-k : goal.bounds-words-k
bounds-words-k c = scan-room-end (c.scan_chunks-k.ensures.read c.args.words.now c.args.at c.loop-x.invariant) (le_refl _) c.if-k-eq0.false

pub returns : goal.returns
returns c = scan-ink (c.scan_chunks-k.ensures.read c.args.words.now c.args.at c.loop-x.invariant) (le_refl _) c.if-k-eq0.false
