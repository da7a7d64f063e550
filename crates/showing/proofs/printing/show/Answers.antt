use mathlib.Core.Path.{sym, ◌∙◌}
use Prim.Native.Nat.{◌*◌}
use lib.Seq.{length-take-le}
use native.Mathlib.Omega.{arith}
use Rattle.showing.proofs.PrintLaws.{says, none-shown, sides-small, dots-small, page-shown}
use Rattle.showing.proofs.printing.show.Goals as goal

pub overflow_mul-dots : goal.overflow_mul-dots
overflow_mul-dots c =
    let s = c.args.input.now in
    let d = dots-small s _ _ _ _ (says s _ (sym c.parse_page.ensures.0 ∙ c.in-Some.is)) in
    omega arith

pub slice_bounds-mask-end : goal.slice_bounds-mask-end
slice_bounds-mask-end c =
    let s = c.args.input.now in
    let d = dots-small s _ _ _ _ (says s _ (sym c.parse_page.ensures.0 ∙ c.in-Some.is)) in
    let l = c.parse_page.auto.mask in
    omega arith

pub slice_bounds-show_page-end : goal.slice_bounds-show_page-end
slice_bounds-show_page-end c =
    let s = c.args.input.now in
    let d = dots-small s _ _ _ _ (says s _ (sym c.parse_page.ensures.0 ∙ c.in-Some.is)) in
    let l = c.parse_page.auto.mask in
    sym (length-take-le (c.in-Some.page.width * c.in-Some.page.height) c.parse_page.new.mask (omega arith))

pub show_page-requires : goal.show_page-requires
show_page-requires c =
    let s = c.args.input.now in
    sides-small s _ _ _ _ (says s _ (sym c.parse_page.ensures.0 ∙ c.in-Some.is))

pub returns-in-None : goal.returns-in-None
returns-in-None c =
    let a = c.args in
    none-shown a.input.now a.out.now (sym c.parse_page.ensures.0 ∙ c.in-None.is) _ c.tell_refusal.ensures

pub returns-in-Some : goal.returns-in-Some
returns-in-Some c =
    let a = c.args in
    let s = a.input.now in
    page-shown s _ _ _ _ (says s _ (sym c.parse_page.ensures.0 ∙ c.in-Some.is)) c.parse_page.new.mask _ a.out.now c.parse_page.ensures.1 _
    c.show_page.ensures
