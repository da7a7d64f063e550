use mathlib.Core.Path.{◌≡◌, sym, ◌∙◌}
use mathlib.Core.Bool.{Bool}
use mathlib.Core.List.{List, [], ◌∷◌}
use Prim.Native.Nat.{ℕ, ◌+◌, ◌-◌, ◌*◌, ◌/◌, ◌%◌, ◌^◌}
use native.Mathlib.Omega.{arith}
use lib.Dec.{eqb, eqb→eq}
use lib.ListN.{get_or}
use Rattle.memory.specs.rules.Lists.{table, upto}
use Rattle.listing.specs.rules.Sheets.{field_digits}
use Rattle.listing.proofs.ComputedTable.{at}
use Rattle.listing.proofs.formats.field_digits.Goals as goal

-- the table of the source
entries : List ℕ
entries = 0x2444_4880 ∷ 0x4444_8843 ∷ 0x4444_3000 ∷ 0x4444_0000 ∷ 0x4444_0000 ∷ 0x4444_8300 ∷ 0x4400_0000 ∷ 0x8888_8800 ∷ []

digits : ℕ → ℕ → ℕ
digits kind j = get_or entries kind 0 / 2 ^ (28 - 4 * j) % 16

-- the rule, of word k % 8 of kind k / 8
right : ℕ → ℕ → Bool
right k x = eqb (digits (k / 8) (k % 8)) (field_digits (k / 8) (k % 8))

pub returns : goal.returns
unfolding entries digits right upto table
returns c =
    let a = c.args in
    let k = a.kind * 8 + a.j in
    let q : k / 8 ≡ a.kind = omega arith in
    let r : k % 8 ≡ a.j = omega arith in
    sym (λ i. digits (q i) (r i))
    ∙ (eqb→eq (digits (k / 8) (k % 8)) (field_digits (k / 8) (k % 8)) (at right (upto 64) tt k (omega arith)) ∙ (λ i. field_digits (q i) (r i)))
