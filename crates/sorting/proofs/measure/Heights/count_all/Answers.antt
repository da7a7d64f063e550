use native.Mathlib.Omega.{arith}
use mathlib.Core.Path.{sym, ◌∙◌, subst}
use Rattle.sorting.specs.rules.Units.{measurable}
use Rattle.memory.specs.rules.Rects.{height}
use Rattle.labelling.specs.rules.Components.{box_of}
use Rattle.memory.specs.stages.Boxes.{Inside}
use Rattle.labelling.specs.declared.component.Component.{Component}
use Rattle.sorting.proofs.HeightLaws.{counted_none, counted_same, counted-few, counted-more, one_at_most}
use Rattle.sorting.proofs.measure.Heights.count_all.Goals as goal

pub loop-k-init : goal.loop-k-init
loop-k-init c = let a = c.args in counted_none a.self.sheet a.self.w a.self.h a.words.now a.sizes a.self.at c.requires.5

pub count_one-n-requires : goal.count_one-n-requires
count_one-n-requires c = let a = c.args in let H = c.loop-k.invariant in let r = c.requires.0.room in let m = c.requires.1 in let n = c.requires.2 in let g = c.requires.3 in
    let e = c.component_at-c.ensures ∙ counted_same a.self.sheet a.self.w a.self.h a.words.now a.sizes H m c.loop-k.k in
    let b = c.requires.0.inside c.loop-k.k (omega arith) in
    let B : Inside a.self.w a.self.h (box_of c.component_at-c.result) = subst (λ (z : Component). Inside a.self.w a.self.h (box_of z)) (sym e) b in
    let f = (counted-few a.self.sheet a.self.w a.self.h a.words.now a.sizes H m).1 (height (box_of c.component_at-c.result)) (let x = B.bottom in let y = B.rows in omega arith) in
    let l = H.within.len in
    (B, omega arith, omega arith, omega arith)

pub overflow_add-n : goal.overflow_add-n
overflow_add-n c = let a = c.args in let H = c.loop-k.invariant in let f = (counted-few a.self.sheet a.self.w a.self.h a.words.now a.sizes H c.requires.1).0 in
    let o = c.count_one-n.ensures.0 in let z = one_at_most (measurable a.self.sheet a.self.w a.self.h c.component_at-c.result) in omega arith

pub loop-k-preserved : goal.loop-k-preserved
loop-k-preserved c = let a = c.args in let H = c.loop-k.invariant in let r = c.requires.0.room in let m = c.requires.1 in
    counted-more a.self.sheet a.self.w a.self.h a.words.now a.sizes H m c.component_at-c.result c.count_one-n.result _ c.component_at-c.ensures (c.requires.0.inside c.loop-k.k (omega arith)) (omega arith) c.count_one-n.ensures.0 c.count_one-n.ensures.1
