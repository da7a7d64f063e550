use Prim.Native.Nat.{◌+◌, ◌-◌, ◌*◌, ◌≤◌}
use lib.ListN.{take}
use Rattle.labelling.specs.stages.Painting.{numbered, PaintsOn}
use Rattle.labelling.specs.stages.Spans.{SpanOf}
use Rattle.labelling.proofs.span.NumberedRuns.paint_span.Given as goal

abbrev pub invariant-loop-last : goal.invariant-loop-last
invariant-loop-last l =
    PaintsOn (numbered l.self.c l.self.runs.now l.self.numbers.now) l.self.c l.initial.labels l.labels (l.base + l.self.w) (l.first + 1) l.initial.clear l.k l.clear × (l.clear ≤ l.base + l.self.w) × SpanOf l.self.w l.self.c (take (2 * l.self.c) (numbered l.self.c l.self.runs.now l.self.numbers.now)) l.first l.k l.last l.dots l.sum

abbrev pub decreases-loop-last : goal.decreases-loop-last
decreases-loop-last l = l.self.c - l.k
