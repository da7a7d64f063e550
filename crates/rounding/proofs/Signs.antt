-- A float with its sign turned: after `round`, and as a factor.
use Rattle.std.proofs.Common.{◌≡◌, ℕ, zero, suc, ◌+◌, ◌*◌, ◌^◌, Bool, true, false, cond, not, eqb, ltb, sym, refl, ap, ◌∙◌}
use lib.Ieee.{Float, nan, inf, fin, Format, prec, low, emax, up, down, odd, units, round, mul, neg, unlike}
use lib.Ieee.Fits.{round_is}

-- whether a float is written with a minus, -0.0 too
abbrev pub negative : Float → Bool
negative nan = false
negative (inf s) = s
negative (fin s m e) = s

neg-odd : (d : ℕ) (s : Bool) (q k l : ℕ) → neg (odd d s q k l) ≡ odd d (not s) q k l
unfolding neg odd
neg-odd d s zero k l = refl
neg-odd d s (suc q) k l = refl

neg-cond : (b : Bool) (d : ℕ) (s : Bool) (q k l : ℕ) → neg (cond b (odd d s q k l) (inf s)) ≡ cond b (odd d (not s) q k l) (inf (not s))
neg-cond true d s q k l = neg-odd d s q k l
neg-cond false d s q k l = unfold neg in refl

neg-units : (f : Format) (s : Bool) (q k : ℕ) → neg (units f s q k) ≡ units f (not s) q k
unfolding units
neg-units f s q k = neg-cond (ltb (q * 2 ^ k) (2 ^ (low f + suc (emax f)))) (suc (prec f)) s q k (low f)

pub neg-round : (f : Format) (s : Bool) (a b : ℕ) → neg (round f s a b) ≡ round f (not s) a b
neg-round f s a b = ap neg (round_is f s a b) ∙ neg-units f s _ _ ∙ sym (round_is f (not s) a b)

unlike-not : (s t : Bool) → unlike (not s) t ≡ unlike s (not t)
unlike-not true true = refl
unlike-not true false = refl
unlike-not false true = refl
unlike-not false false = refl

pub mul-neg : (f : Format) (x y : Float) → mul f (neg x) y ≡ mul f x (neg y)
unfolding mul neg
mul-neg f nan y = refl
mul-neg f (inf s) nan = refl
mul-neg f (inf s) (inf t) = ap inf (unlike-not s t)
mul-neg f (inf s) (fin t n d) = ap (λ (u : Bool). cond (eqb n 0) nan (inf u)) (unlike-not s t)
mul-neg f (fin s m e) nan = refl
mul-neg f (fin s m e) (inf t) = ap (λ (u : Bool). cond (eqb m 0) nan (inf u)) (unlike-not s t)
mul-neg f (fin s m e) (fin t n d) = ap (λ (u : Bool). round f u (m * up e * (n * up d)) (down e * down d)) (unlike-not s t)
