-- A chain of refusals that gives 0: every test is passed; and a chain before others.
use mathlib.Core.Path.{◌≡◌, refl, sym, ap, ◌∙◌}
use mathlib.Core.Bool.{Bool, true, false, cond}
use lib.Dec.{eqb}
use Prim.Native.Nat.{ℕ, suc}
use native.Mathlib.Omega.{arith}
use Rattle.memory.specs.rules.Refusals.{refuse_if, number}
use Rattle.memory.specs.declared.refusals.Refusal.{Refusal}
use Rattle.memory.specs.declared.refusals.Refusal.TheVariants as refusals

-- a refusal's number is none that accepts
pub number_positive : (r : Refusal) → number r ≡ 0 → ⊥
number_positive refusals.Sides e = absurd (omega arith)
number_positive refusals.MaskLength e = absurd (omega arith)
number_positive refusals.MaskByte e = absurd (omega arith)
number_positive refusals.Skew e = absurd (omega arith)
number_positive refusals.Slope e = absurd (omega arith)
number_positive refusals.Sheet e = absurd (omega arith)
number_positive refusals.Capacity e = absurd (omega arith)
number_positive refusals.Place e = absurd (omega arith)
number_positive refusals.Lent e = absurd (omega arith)
number_positive refusals.Spoiled e = absurd (omega arith)
number_positive refusals.NotEmpty e = absurd (omega arith)
number_positive refusals.NotLevelled e = absurd (omega arith)
number_positive refusals.NotSegmented e = absurd (omega arith)
number_positive refusals.TooManyComponents e = absurd (omega arith)
number_positive refusals.TooManyLines e = absurd (omega arith)

-- the refusal with this number
abbrev with_number : ℕ → Refusal
with_number n = cond (eqb n 2) refusals.MaskLength (cond (eqb n 3) refusals.MaskByte (cond (eqb n 4) refusals.Skew (cond (eqb n 5) refusals.Slope (cond (eqb n 6) refusals.Sheet (cond (eqb n 7) refusals.Capacity (cond (eqb n 8) refusals.Place (cond (eqb n 9) refusals.Lent (cond (eqb n 16) refusals.Spoiled (cond (eqb n 17) refusals.NotEmpty (cond (eqb n 18) refusals.NotLevelled (cond (eqb n 19) refusals.NotSegmented (cond (eqb n 20) refusals.TooManyComponents (cond (eqb n 21) refusals.TooManyLines (refusals.Sides))))))))))))))

with-number : (r : Refusal) → with_number (number r) ≡ r
with-number refusals.Sides = refl
with-number refusals.MaskLength = refl
with-number refusals.MaskByte = refl
with-number refusals.Skew = refl
with-number refusals.Slope = refl
with-number refusals.Sheet = refl
with-number refusals.Capacity = refl
with-number refusals.Place = refl
with-number refusals.Lent = refl
with-number refusals.Spoiled = refl
with-number refusals.NotEmpty = refl
with-number refusals.NotLevelled = refl
with-number refusals.NotSegmented = refl
with-number refusals.TooManyComponents = refl
with-number refusals.TooManyLines = refl

-- the number tells which refusal it is
pub number_once : (r q : Refusal) → number r ≡ number q → r ≡ q
number_once r q e = sym (with-number r) ∙ (ap with_number e ∙ with-number q)

-- the first test says that the call is not bad, and the later ones give 0
pub record Passed (bad : Bool) (rest : ℕ) : Type 0 where
  pub passed : bad ≡ false
  pub later : rest ≡ 0

pub refusal-passed : (bad : Bool) (k rest : ℕ) → refuse_if bad (suc k) rest ≡ 0 → Passed bad rest
unfolding refuse_if
refusal-passed true k rest e = absurd (omega arith)
refusal-passed false k rest e = record { passed = refl; later = e }

-- a chain of tests F before others: where it gives 0 the later ones are asked, else it is the answer whatever they give
pub record Passes (F : ℕ → ℕ) : Type 0 where
  pub pass : F 0 ≡ 0 → (x : ℕ) → F x ≡ x
  pub stop : (F 0 ≡ 0 → ⊥) → (x : ℕ) → F x ≡ F 0

pub passes_none : Passes (λ x. x)
passes_none = record { pass = λ _ x. refl; stop = λ n x. absurd (n refl) }

pub passes-if : (b : Bool) (k : ℕ) {F : ℕ → ℕ} → Passes F → Passes (λ x. refuse_if b (suc k) (F x))
unfolding refuse_if
passes-if true k p = record { pass = λ e x. absurd (omega arith); stop = λ _ x. refl }
passes-if false k p = record { pass = p.pass; stop = p.stop }
