use native.Mathlib.Omega.{arith}
use Prim.Native.Nat.{◌+◌, ◌<◌}
use mathlib.Core.Path.{refl, sym, ap, ◌∙◌, subst}
use Rattle.labelling.specs.declared.component.Component.{Component}
use Rattle.memory.specs.stages.Boxes.{Inside}
use Rattle.labelling.specs.rules.Components.{box_of}
use Rattle.sorting.specs.rules.Units.{unit_value}
use Rattle.sorting.specs.rules.Kinds.{kind_of}
use Rattle.sorting.specs.stages.Measures.{sized_at}
use Rattle.memory.proofs.StoredLaws.{stored_more}
use Rattle.sorting.proofs.SizedLaws.{sized-before}
use Rattle.sorting.proofs.HeightLaws.{box-fits}
use Rattle.sorting.proofs.measure.write_kinds.Goals as goal

pub kind_of-requires : goal.kind_of-requires
kind_of-requires c = let a = c.args in let l : c.loop-k.k < a.count = omega arith in let m = c.requires.1 in
    subst (λ (z : Component). Inside 4294967295 4294967295 (box_of z)) (sym (c.component_at-c.ensures ∙ sized-before c.loop-k.invariant.within a.plan.sizes c.loop-k.k (omega arith)))
    (box-fits a.plan.width a.plan.height (sized_at a.words.now a.plan.sizes c.loop-k.k) (c.requires.0.inside c.loop-k.k l) (omega arith) (omega arith))

pub loop-k-preserved : goal.loop-k-preserved
loop-k-preserved c = let a = c.args in let l : c.loop-k.k < a.count = omega arith in let m = c.requires.1 in let n = c.requires.2 in
    stored_more c.loop-k.invariant (a.plan.kinds + c.loop-k.k) c.kind_of.result refl (omega arith)
    (c.kind_of.ensures ∙ ap (λ (z : Component). kind_of a.sheet (unit_value a.unit) a.plan.width a.plan.height z) (c.component_at-c.ensures ∙ sized-before c.loop-k.invariant.within a.plan.sizes c.loop-k.k (omega arith)))
