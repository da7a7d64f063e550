-- The entries of a shear, as the code finds them: each drift minus the lesser of the first and the last, since drifts run one way.
use Rattle.std.specs.Prelude.{◌≡◌, ℕ, ◌-◌, ◌^◌, ◌≤◌, ℤ, ◌-ℤ◌, Float}
use Rattle.rounding.specs.rules.Drift.{WithinOne}
use Rattle.levelling.specs.declared.shears.Drift.{Drift}
use Rattle.levelling.specs.rules.Shears.{minℤ, natural, drift_of}

-- the lesser of the first and the last of n drifts
abbrev pub least_end : (ℕ → ℤ) → ℕ → ℤ
least_end d n = minℤ (d 0) (d (n - 1))

-- `least` is the least of some n drifts, at least k
pub record LeastOf (which : Drift) (slope : Float) (k : ℕ) (least : ℤ) : Type 0 where
  pub n : ℕ
  pub enough : k ≤ n
  pub few : n ≤ 2 ^ 15
  pub one : WithinOne slope
  pub least_is : least ≡ least_end (drift_of which slope) n

-- entry i of the shear of drifts whose least is `least`
abbrev pub entry_of : Drift → Float → ℤ → ℕ → ℕ
entry_of which slope least i = natural (drift_of which slope i -ℤ least)
