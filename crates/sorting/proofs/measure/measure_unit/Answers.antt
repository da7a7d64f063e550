use native.Mathlib.Omega.{arith}
use mathlib.Core.Path.{◌∙◌}
use Prim.Native.Nat.{◌+◌}
use Rattle.memory.proofs.StoredLaws.{stored-fill}
use Rattle.sorting.proofs.HeightLaws.{counted-all, inside_past, unit-past, cleared-within}
use Rattle.sorting.proofs.measure.measure_unit.Goals as goal

pub count_all-n-requires : goal.count_all-n-requires
count_all-n-requires c = let p = c.requires in let a = c.args in let S = stored-fill 0 a.heights (a.h + 1) a.words.now _ (omega (arith, p.0.room, p.1)) c.fill.ensures in let m = p.1 in
    (inside_past p.0 S.within (omega arith), m, p.2, p.3, omega arith, λ v l. S.each v (omega arith))

pub returns : goal.returns
returns c = let p = c.requires in let a = c.args in let S = stored-fill 0 a.heights (a.h + 1) a.words.now _ (omega (arith, p.0.room, p.1)) c.fill.ensures in let H = c.count_all-n.ensures in let m = p.1 in let r = p.0.room in let z = S.within.len in (
  c.unit_from.ensures _ (counted-all a.sheet a.w a.h a.sizes a.heights a.count c.count_all-n.result _ _ H (inside_past p.0 S.within (omega arith)) (omega arith))
      ∙ unit-past a.sheet a.w a.h a.sizes a.count S.within (omega arith),
  cleared-within a.h S H.within,
)
