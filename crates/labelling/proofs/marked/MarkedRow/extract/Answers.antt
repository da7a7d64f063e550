use native.Mathlib.Omega.{arith}
use Prim.Native.Nat.{◌+◌}
use native.Mathlib.Nat.{le_refl}
use lib.ListN.{length}
use Rattle.labelling.proofs.MarkedLaws.{marked_start, marked-upto, marked-asks, marked-read, marked-blank, marked-fits-end, marked-ink}
use Rattle.labelling.proofs.marked.MarkedRow.extract.Goals as goal

pub loop-x-init : goal.loop-x-init
loop-x-init c = marked_start c.requires

pub overflow_sub-self : goal.overflow_sub-self
overflow_sub-self c = marked-upto c.loop-x.invariant

pub scan_chunk-k-requires : goal.scan_chunk-k-requires
scan_chunk-k-requires c = marked-asks c.loop-x.invariant (c.loop-x.x + 32) (omega arith) (omega (arith, c.loop-x-test.true, marked-upto c.loop-x.invariant))

pub scan-k-requires : goal.scan-k-requires
scan-k-requires c = marked-asks c.loop-x.invariant (length c.args.self.ink.now) (marked-upto c.loop-x.invariant) (le_refl _)

pub returns-then-k-eq0 : goal.returns-then-k-eq0
returns-then-k-eq0 c = marked-blank (marked-read c.loop-x.invariant _ _ _ c.scan-k.ensures) (le_refl _) c.if-k-eq0.true

pub bounds-words-k : goal.bounds-words-k
bounds-words-k c = marked-fits-end (marked-read c.loop-x.invariant _ _ _ c.scan-k.ensures) (le_refl _) c.if-k-eq0.false

pub returns : goal.returns
returns c = marked-ink (marked-read c.loop-x.invariant _ _ _ c.scan-k.ensures) (le_refl _) c.if-k-eq0.false
