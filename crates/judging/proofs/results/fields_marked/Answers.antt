use borrow.Author.Rules.{rules}
use Prim.Native.Nat.{ℕ, ◌+◌, ◌*◌, ◌<◌}
use mathlib.Core.Path.{◌≡◌, refl}
use mathlib.Core.Bool.{Bool}
use lib.ListN.{length, get_or}
use native.Mathlib.Omega.{arith}
use Rattle.std.proofs.iter.Serving.{serving}
use mathlib.Core.Bool.{◌||◌}
use lib.Dec.{eqb, ltb}
use Rattle.memory.specs.rules.Limits.{no_line}
use Rattle.judging.proofs.ResultLaws.{record-ends, fields-there}
use Rattle.judging.proofs.results.fields_marked.Goals as goal

pub each_ok-requires : goal.each_ok-requires
each_ok-requires c =
    let a = c.args in
    let test : ℕ → Bool = λ i. (eqb (get_or a.words.now (a.r.at + i * a.r.width + a.field) 0) no_line || ltb (get_or a.words.now (a.r.at + i * a.r.width + a.field) 0) a.limit) in (
      omega arith,
      (
        test,
        λ i l.
            let low : a.r.at + i * a.r.width + a.field < length a.words.now = omega (arith, record-ends a.r.at i a.r.n a.r.width l, c.requires.0, c.requires.1) in
            (grind serving, λ b q. let e : b ≡ test i = search rules in e),
      ),
    )

pub returns : goal.returns
returns c =
    let a = c.args in
    let test : ℕ → Bool = λ i. (eqb (get_or a.words.now (a.r.at + i * a.r.width + a.field) 0) no_line || ltb (get_or a.words.now (a.r.at + i * a.r.width + a.field) 0) a.limit) in
    fields-there (λ v. eqb v no_line || ltb v a.limit) a.r.at a.r.width a.field a.r.n a.words.now c.each_ok.result a.r.n c.requires.1 refl
    (c.each_ok.ensures test (λ i b l q. let e : b ≡ test i = search rules in e))
