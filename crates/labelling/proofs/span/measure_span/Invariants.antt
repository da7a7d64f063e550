use Prim.Native.Nat.{ℕ, ◌-◌, ◌*◌}
use lib.ListN.{take}
use Rattle.labelling.specs.stages.Spans.{SpanOf}
use Rattle.labelling.proofs.span.measure_span.Given as goal

abbrev pub invariant-loop-last : goal.invariant-loop-last
invariant-loop-last l = ((sum : ℕ) × SpanOf l.w l.c (take (2 * l.c) l.words) l.first l.k l.last l.dots sum)

abbrev pub decreases-loop-last : goal.decreases-loop-last
decreases-loop-last l = l.c - l.k
