use mathlib.Core.Path.{◌∙◌, sym}
use mathlib.Core.Bool.{cond}
use Prim.Native.Nat.{◌+◌}
use native.Mathlib.Nat.{le_refl}
use native.Mathlib.Omega.{arith}
use lib.ListN.{get_or}
use Rattle.rulings.specs.stages.Sweeps.{widened_scanline}
use Rattle.extents.proofs.RunLaws.{behind-le, count_next}
use Rattle.extents.proofs.ExtentLaws.{bit-times, bit-times-le}
use Rattle.rulings.proofs.ColumnLaws.{recounted-next, recounted-none}
use Rattle.rulings.proofs.plane.Plane.count_end.Goals as goal

pub overflow_add-words : goal.overflow_add-words
overflow_add-words c =
    let a = c.args in
    let p = c.requires in
    let h = p.2.each a.o (le_refl a.o) (omega arith) in
    let b = behind-le (widened_scanline a.self.sweep a.self.ink.now a.o) a.y in
    let n = c.args.self.laid.narrow in
    omega arith

pub overflow_mul-words : goal.overflow_mul-words
overflow_mul-words c =
    let a = c.args in
    let p = c.requires in
    let h = p.2.each a.o (le_refl a.o) (omega arith) in
    let b = behind-le (widened_scanline a.self.sweep a.self.ink.now a.o) a.y in
    let n = c.args.self.laid.narrow in
    let z = bit-times-le c.is_widened-on.result (get_or a.words.now a.o 0 + 1) in
    record { fits = omega arith }

pub returns : goal.returns
returns c =
    let a = c.args in
    let p = c.requires in
    let h = p.2.each a.o (le_refl a.o) (omega arith) in
    recounted-next a.self.sweep a.self.ink.now a.o a.o a.y _ a.words.now a.words.now (le_refl a.o) p.3
    (bit-times c.is_widened-on.result (get_or a.words.now a.o 0 + 1) ∙ ((λ k. cond (c.is_widened-on.ensures k) (h k + 1) 0) ∙ sym (count_next (widened_scanline a.self.sweep a.self.ink.now a.o) a.y)))
    (recounted-none a.self.sweep a.self.ink.now a.o a.y a.words.now)
