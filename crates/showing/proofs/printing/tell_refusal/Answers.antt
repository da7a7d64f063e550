use mathlib.Core.Path.{sym}
use native.Mathlib.Omega.{arith}
use Rattle.listing.specs.rules.Digits.{refusal_text}
use Rattle.showing.proofs.TextLaws.{refusal-long, text-short, text-told}
use Rattle.showing.proofs.printing.tell_refusal.Goals as goal

pub returns-then-out-lt-REFUSAL : goal.returns-then-out-lt-REFUSAL
returns-then-out-lt-REFUSAL c =
    let a = c.args in
    text-short (refusal_text a.number) a.out.now (let e = refusal-long a.number in omega arith)

pub returns : goal.returns
returns c =
    let a = c.args in
    let e = refusal-long a.number in
    text-told (refusal_text a.number) a.out.now _ 5 (sym e) (omega arith) c.put_refusal.ensures.1
