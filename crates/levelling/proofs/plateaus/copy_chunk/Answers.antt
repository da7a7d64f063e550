use mathlib.Core.Path.{◌≡◌, ap, ◌∙◌}
use native.Mathlib.Omega.{arith}
use lib.ListN.{take, drop, length-take, length-drop}
use lib.Seq.{take_all}
use Rattle.memory.specs.rules.Words.{over}
use Rattle.memory.proofs.PartLaws.{over-all}
use Rattle.levelling.proofs.plateaus.copy_chunk.Goals as goal

pub returns : goal.returns
returns c = let a = c.args in
    let whole : take 64 (drop 0 a.src.now) ≡ a.src.now = take_all 64 a.src.now (omega (arith, c.requires)) in
    c.copy_over-2.ensures ∙ ap (λ v. over v a.dst.now) (c.copy_over.ensures ∙ (over-all _ _ (simp (length-take, length-drop) (omega (arith, c.requires))) ∙ whole))
