use mathlib.Core.Path.{◌≡◌, refl, ap, ◌∙◌}
use mathlib.Core.List.{List}
use Prim.Native.Nat.{ℕ}
use Rattle.memory.proofs.RefusalLaws.{number_positive}
use Rattle.store.specs.rules.Outcomes.{Told}
use Rattle.showing.specs.stages.Texts.{text_told}
use Rattle.listing.specs.rules.Digits.{refusal_text}
use Rattle.showing.proofs.ShowLaws.{refused-first, refused-second, page-told}
use Rattle.showing.proofs.printing.show_leaf.Goals as goal

-- what is told of a number is told of the number that it equals
told-as : (t : Told) (n m : ℕ) (out : List ℕ) → t ≡ text_told (refusal_text n) out → n ≡ m → t ≡ text_told (refusal_text m) out
told-as t n m out e q = e ∙ ap (λ k. text_told (refusal_text k) out) q

pub returns-in-Err : goal.returns-in-Err
returns-in-Err c =
    let a = c.args in
    refused-first a.mask.now a.page.width a.page.height a.page.skew a.page.slope c.requires.small a.store.now a.ink.now a.kinds.now a.scratch.now c.requires.room
    _ _ _ c.in-Err.ensures c.level_page.auto.store c.level_page.auto.ink
    (number_positive c.in-Err.refused) a.out.now _ (told-as _ _ _ a.out.now c.tell_refusal.ensures c.from.ensures)

pub returns-in-Err-segment_page : goal.returns-in-Err-segment_page
returns-in-Err-segment_page c =
    let a = c.args in
    refused-second a.mask.now a.page.width a.page.height a.page.skew a.page.slope c.requires.small a.store.now a.ink.now a.kinds.now a.scratch.now c.requires.room
    _ _ _ c.in_default.ensures c.level_page.auto.store c.level_page.auto.ink
    refl _ _ _ c.in-Err-segment_page.ensures c.segment_page.auto.store c.segment_page.auto.kinds
    (number_positive c.in-Err-segment_page.crowded) a.out.now _ (told-as _ _ _ a.out.now c.tell_refusal-in-Err-segment_page.ensures c.from-in-Err-segment_page.ensures)

pub returns : goal.returns
returns c =
    let a = c.args in
    page-told a.mask.now a.page.width a.page.height a.page.skew a.page.slope c.requires.small a.store.now a.ink.now a.kinds.now a.scratch.now c.requires.room
    _ _ _ c.in_default.ensures c.level_page.auto.store c.level_page.auto.ink
    refl _ _ _ c.in_default-segment_page.ensures c.segment_page.auto.store c.segment_page.auto.kinds
    refl a.out.now _ c.write_sheet.ensures
