use native.Mathlib.Omega.{arith}
use Prim.Native.Nat.{◌+◌, ◌*◌}
use mathlib.Core.Path.{refl, ap, ◌∙◌}
use Rattle.labelling.specs.declared.component.Component.{Component}
use Rattle.memory.proofs.StoredLaws.{stored_more, stored-count}
use Rattle.sorting.proofs.SizedLaws.{sized_past, box-word-first, box-word-second}
use Rattle.sorting.proofs.measure.pack_boxes.Goals as goal

pub overflow_mul-words : goal.overflow_mul-words
overflow_mul-words c = let a = c.args in let e = c.component_at-c.ensures ∙ sized_past c.loop-k.invariant.within a.sizes c.loop-k.k (omega (arith, c.requires.1)) in let b = c.requires.0.inside c.loop-k.k (omega arith) in let x = ap (λ (z : Component). z.x1) e in let y = b.right in omega arith

pub overflow_add-words : goal.overflow_add-words
overflow_add-words c = let a = c.args in let e = c.component_at-c.ensures ∙ sized_past c.loop-k.invariant.within a.sizes c.loop-k.k (omega (arith, c.requires.1)) in let b = c.requires.0.inside c.loop-k.k (omega arith) in let x = ap (λ (z : Component). z.x1) e in let v = ap (λ (z : Component). z.x0) e in let y = b.right in let u = b.columns in omega arith

pub overflow_mul-words-in-loop-k : goal.overflow_mul-words-in-loop-k
overflow_mul-words-in-loop-k c = let a = c.args in let e = c.component_at-c.ensures ∙ sized_past c.loop-k.invariant.within a.sizes c.loop-k.k (omega (arith, c.requires.1)) in let b = c.requires.0.inside c.loop-k.k (omega arith) in let x = ap (λ (z : Component). z.y1) e in let y = b.bottom in omega arith

pub overflow_add-words-in-loop-k : goal.overflow_add-words-in-loop-k
overflow_add-words-in-loop-k c = let a = c.args in let e = c.component_at-c.ensures ∙ sized_past c.loop-k.invariant.within a.sizes c.loop-k.k (omega (arith, c.requires.1)) in let b = c.requires.0.inside c.loop-k.k (omega arith) in let x = ap (λ (z : Component). z.y1) e in let v = ap (λ (z : Component). z.y0) e in let y = b.bottom in let u = b.rows in omega arith

pub loop-k-preserved : goal.loop-k-preserved
loop-k-preserved c = let a = c.args in let e = c.component_at-c.ensures ∙ sized_past c.loop-k.invariant.within a.sizes c.loop-k.k (omega (arith, c.requires.1)) in let p = c.requires.0.room in let q = c.requires.1 in
    stored-count (stored_more (stored_more c.loop-k.invariant (a.to + 2 * c.loop-k.k) _ refl (omega arith) (box-word-first a.words.now a.sizes c.loop-k.k c.component_at-c.result e))
    (a.to + 2 * c.loop-k.k + 1) _ (omega arith) (omega arith) (box-word-second a.words.now a.sizes c.loop-k.k c.component_at-c.result e)) (omega arith)
