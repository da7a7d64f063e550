use mathlib.Core.Path.{refl}
use mathlib.Core.Logic.{inl, inr}
use Prim.Native.Nat.{◌≤◌}
use native.Mathlib.Omega.{arith}
use Rattle.smoothing.proofs.PageLaws.{smears-many, ends, label-ask, count-ask, lines-ask, page-long, smears-done, lines-many}
use Rattle.smoothing.proofs.smears.find_smears.Goals as goal

pub returns-then-plan-smears : goal.returns-then-plan-smears
returns-then-plan-smears c = λ m S n. let L = c.label_smears-found.ensures m S in (L.len, inl (refl, smears-many S L c.if-plan-smears.true))

pub overflow_mul-numbers : goal.overflow_mul-numbers
overflow_mul-numbers c = let S = c.requires.1 in let Q = c.requires.3 in let n = c.requires.2 in let L = c.label_smears-found.ensures _ S in let u : c.label_smears-found.result.smears ≤ c.args.plan.capacity = omega (arith, c.if-plan-smears.false) in let e = ends S L u n in let e₂ = e.2 in let e₃ = e.3 in omega arith

pub overflow_mul-numbers-2 : goal.overflow_mul-numbers-2
overflow_mul-numbers-2 c = let S = c.requires.1 in let Q = c.requires.3 in let n = c.requires.2 in let L = c.label_smears-found.ensures _ S in let u : c.label_smears-found.result.smears ≤ c.args.plan.capacity = omega (arith, c.if-plan-smears.false) in let e = ends S L u n in let e₂ = e.2 in let e₃ = e.3 in omega arith

pub overflow_add-numbers : goal.overflow_add-numbers
overflow_add-numbers c = let S = c.requires.1 in let Q = c.requires.3 in let n = c.requires.2 in let L = c.label_smears-found.ensures _ S in let u : c.label_smears-found.result.smears ≤ c.args.plan.capacity = omega (arith, c.if-plan-smears.false) in let e = ends S L u n in let e₂ = e.2 in let e₃ = e.3 in omega arith

pub label_glyphs-requires : goal.label_glyphs-requires
label_glyphs-requires c = let S = c.requires.1 in let Q = c.requires.3 in let n = c.requires.2 in let L = c.label_smears-found.ensures _ S in let u : c.label_smears-found.result.smears ≤ c.args.plan.capacity = omega (arith, c.if-plan-smears.false) in rw (Q.kinds_is, Q.glyphs_is) (label-ask S L u n)

pub count_glyphs-requires : goal.count_glyphs-requires
count_glyphs-requires c = let S = c.requires.1 in let Q = c.requires.3 in let n = c.requires.2 in let L = c.label_smears-found.ensures _ S in let u : c.label_smears-found.result.smears ≤ c.args.plan.capacity = omega (arith, c.if-plan-smears.false) in rw (Q.kinds_is, Q.glyphs_is) (count-ask S L u n (rw (Q.kinds_is, Q.glyphs_is) at c.label_glyphs.ensures))

pub count_lines-lines-requires : goal.count_lines-lines-requires
count_lines-lines-requires c = let S = c.requires.1 in let Q = c.requires.3 in let n = c.requires.2 in let L = c.label_smears-found.ensures _ S in let u : c.label_smears-found.result.smears ≤ c.args.plan.capacity = omega (arith, c.if-plan-smears.false) in rw (Q.smears_is, Q.glyphs_is) (lines-ask S L u n (rw (Q.kinds_is, Q.glyphs_is) at c.label_glyphs.ensures) (rw (Q.kinds_is, Q.glyphs_is) at c.count_glyphs.ensures))

pub returns-then-lines : goal.returns-then-lines
returns-then-lines c = λ m S n. let Q = c.requires.3 in let L = c.label_smears-found.ensures m S in let u : c.label_smears-found.result.smears ≤ c.args.plan.capacity = omega (arith, c.if-plan-smears.false) in (page-long S L u n (rw (Q.kinds_is, Q.glyphs_is) at c.label_glyphs.ensures) (rw (Q.kinds_is, Q.glyphs_is) at c.count_glyphs.ensures), let n = lines-many S L u n (rw (Q.kinds_is, Q.glyphs_is) at c.label_glyphs.ensures) (rw (Q.kinds_is, Q.glyphs_is) at c.count_glyphs.ensures) c.count_lines-lines.result (rw (Q.smears_is, Q.glyphs_is) at c.count_lines-lines.ensures) c.if-lines.true in inr (refl, n.0, n.1))

pub returns : goal.returns
returns c = λ m S n. let Q = c.requires.3 in let L = c.label_smears-found.ensures m S in let u : c.label_smears-found.result.smears ≤ c.args.plan.capacity = omega (arith, c.if-plan-smears.false) in (page-long S L u n (rw (Q.kinds_is, Q.glyphs_is) at c.label_glyphs.ensures) (rw (Q.kinds_is, Q.glyphs_is) at c.count_glyphs.ensures), smears-done S L u n (rw (Q.kinds_is, Q.glyphs_is) at c.label_glyphs.ensures) (rw (Q.kinds_is, Q.glyphs_is) at c.count_glyphs.ensures) c.count_lines-lines.result (rw (Q.smears_is, Q.glyphs_is) at c.count_lines-lines.ensures) c.if-lines.false)
