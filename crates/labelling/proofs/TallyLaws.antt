-- Records written span by span.
use mathlib.Core.Path.{◌≡◌, refl, sym, ap, ◌∙◌}
use mathlib.Core.List.{List, [], ◌∷◌, ◌++◌, append_assoc}
use Prim.Native.Nat.{ℕ, zero, suc, ◌+◌, ◌-◌, ◌*◌, ◌/◌, ◌%◌, ◌≤◌, ◌<◌}
use native.Mathlib.Nat.{not-suc-le-zero, le_of_suc-le-suc, suc-mul, mod-add-div'}
use native.Mathlib.Decide.{ℕ_discrete}
use native.Mathlib.Omega.{arith}
use borrow.Author.Tests.{lt-ltb, le-ltb}
use borrow.Rule.Slice.PartMut.{put_mid}
use lib.ListN.{get_or, length, set, take, drop, length-append, length-drop, length-set}
use lib.Seq.{length-take-le, drop-drop, get_or-take, get_or-drop, sets-eq, take-append-add, drop-append-add, drop-append_seam, ext_get_or, get_or-set_same, get_or-set_other}
use Rattle.memory.specs.rules.Lists.{table}
use Rattle.memory.specs.rules.Words.{over}
use Rattle.memory.specs.rules.Records.{encoded}
use Rattle.memory.proofs.TableLaws.{length-table, get_or-table}
use Rattle.memory.proofs.RecordLaws.{length-encoded, record-more, record-at}
use Rattle.labelling.specs.rules.Components.{no_dots}
use Rattle.labelling.specs.stages.Absorbing.{absorbed_span}
use Rattle.labelling.specs.rules.RecordWords.{record_words}
use Rattle.labelling.specs.stages.RecordParts.{record_of}
use Rattle.labelling.specs.stages.Tallying.{held_record, tallied}
use Rattle.labelling.specs.declared.component.Component.{Component}

pub nine-long : (at : ℕ) (s : List ℕ) → at + 9 ≤ length s → length (take (at + 9 - at) (drop at s)) ≡ 9
nine-long at s h = let e : at + 9 - at ≡ 9 = omega arith in rw e (length-take-le 9 (drop at s) (simp length-drop (omega arith)))

pub nine-part : (at : ℕ) (s : List ℕ) → take (at + 9 - at) (drop at s) ≡ take 9 (drop at s)
nine-part at s = ap (λ z. take z (drop at s)) (let e : at + 9 - at ≡ 9 = omega arith in e)

nine-put : (at : ℕ) (s v : List ℕ) → put_mid at (at + 9 - at) s v ≡ take at s ++ (v ++ drop (at + 9) s)
nine-put at s v = ap (λ z. take at s ++ (v ++ z)) (drop-drop (at + 9 - at) at s ∙ ap (λ z. drop z s) (let e : at + (at + 9 - at) ≡ at + 9 = omega arith in e))

pub span-tallied : (s : List ℕ) (number count x last dots sum y : ℕ) (before after : Component) (v : List ℕ)
    → before ≡ held_record s number count → after ≡ absorbed_span before x last dots sum y → v ≡ record_words after
    → put_mid ((number - 1) * 9) ((number - 1) * 9 + 9 - (number - 1) * 9) s v ≡ tallied s number count x last dots sum y
span-tallied s number count x last dots sum y before after v eb ea ev =
    nine-put ((number - 1) * 9) s v
    ∙ ap (λ z. take ((number - 1) * 9) s ++ (z ++ drop ((number - 1) * 9 + 9) s)) (ev ∙ ap record_words (ea ∙ ap (λ z. absorbed_span z x last dots sum y) eb))

-- a new record
pub held_none : (s : List ℕ) (number count : ℕ) → count < number → no_dots ≡ held_record s number count
unfolding held_record
held_none s number count l = rw (lt-ltb count number l) refl

-- and one that is there
pub held-words : (s : List ℕ) (number count : ℕ) → number ≤ count → record_of (take ((number - 1) * 9 + 9 - (number - 1) * 9) (drop ((number - 1) * 9) s)) ≡ held_record s number count
unfolding held_record
held-words s number count l = rw (le-ltb count number l) (ap record_of (nine-part ((number - 1) * 9) s))

-- Records in a list of them

module _ {A : Type 0} (words : A → List ℕ) (k : ℕ) (each : (a : A) → length (words a) ≡ k) where
  -- the record at i replaced
  pub record-put : (l : List A) (i : ℕ) (a : A) (rest : List ℕ) → i < length l
      → take (i * k) (encoded words l ++ rest) ++ (words a ++ drop (i * k + k) (encoded words l ++ rest)) ≡ encoded words (set l i a) ++ rest
  unfolding encoded
  record-put [] i a rest h = absurd (not-suc-le-zero h)
  record-put (b ∷ l) zero a rest h =
      let z : 0 * k ≡ 0 = omega arith in
      let e : 0 + k ≡ length (words b) = (let q = each b in omega arith) in
      rw (z, append_assoc (words b) (encoded words l) rest, e)
      (ap (λ t. words a ++ t) (drop-append_seam (words b) (encoded words l ++ rest)) ∙ sym (append_assoc (words a) (encoded words l) rest))
  record-put (b ∷ l) (suc i) a rest h =
      let m : suc i * k ≡ i * k + k = suc-mul i k in
      let q : length (words b) ≡ k = each b in
      let e₁ : suc i * k ≡ length (words b) + i * k = omega arith in
      let e₂ : suc i * k + k ≡ length (words b) + (i * k + k) = omega arith in
      let X = encoded words l ++ rest in
      rw (append_assoc (words b) (encoded words l) rest)
      (ap (λ z. take z (words b ++ X) ++ (words a ++ drop (suc i * k + k) (words b ++ X))) e₁
      ∙ (ap (λ z. take (length (words b) + i * k) (words b ++ X) ++ (words a ++ drop z (words b ++ X))) e₂
      ∙ (ap (λ t. t ++ (words a ++ drop (length (words b) + (i * k + k)) (words b ++ X))) (take-append-add (words b) X (i * k))
      ∙ (ap (λ t. (words b ++ take (i * k) X) ++ (words a ++ t)) (drop-append-add (words b) X (i * k + k))
      ∙ (append_assoc (words b) (take (i * k) X) (words a ++ drop (i * k + k) X)
      ∙ (ap (λ t. words b ++ t) (record-put l i a rest (le_of_suc-le-suc h)) ∙ sym (append_assoc (words b) (encoded words (set l i a)) rest)))))))

  -- a record more
  pub record-append : (l : List A) (a : A) (s : List ℕ) (i : ℕ) → i ≡ length l → i * k + k ≤ length s
      → take (i * k) (over (encoded words l) s) ++ (words a ++ drop (i * k + k) (over (encoded words l) s)) ≡ over (encoded words (l ++ (a ∷ []))) s
  record-append l a s i e h =
      let n = length-encoded words k each l in
      let q : i * k ≡ length (encoded words l) = ap (λ z. z * k) e ∙ sym n in
      let w = each a in
      let o : length (over (encoded words l) s) ≡ length s = simp (length-append, length-drop) (omega arith) in
      let f : i * k + length (words a) ≤ length (over (encoded words l) s) = omega arith in
      let p : i * k + length (words a) ≡ i * k + k = ap (λ z. i * k + z) w in
      sym (append_assoc (take (i * k) (over (encoded words l) s)) (words a) (drop (i * k + k) (over (encoded words l) s)))
      ∙ (ap (λ z. (take (i * k) (over (encoded words l) s) ++ words a) ++ drop z (over (encoded words l) s)) (sym p)
      ∙ (sym (sets-eq (words a) (over (encoded words l) s) (i * k) f) ∙ record-more words k each l a s (i * k) q h))

-- one entry of a table changed
pub table-put : {A : Type 0} (f g : ℕ → A) (n i : ℕ) → i < n → ((q : ℕ) → q < n → (q ≡ i → ⊥) → g q ≡ f q) → table g n ≡ set (table f n) i (g i)
table-put {A} f g n i l same =
    ext_get_or (f 0) (table g n) (set (table f n) i (g i)) (length-table g n ∙ sym (length-set (table f n) i (g i) ∙ length-table f n))
    (λ q h. let h₂ : q < n = (let e = length-table g n in omega arith) in get_or-table g n q (f 0) h₂ ∙ at q h₂ (ℕ_discrete q i))
  where
    at : (q : ℕ) → q < n → Dec (q ≡ i) → g q ≡ get_or (set (table f n) i (g i)) q (f 0)
    at q h (yes e) = ap g e ∙ (sym (get_or-set_same (table f n) i (g i) (f 0) (let z = length-table f n in omega arith)) ∙ ap (λ z. get_or (set (table f n) i (g i)) z (f 0)) (sym e))
    at q h (no ne) = same q h ne ∙ (sym (get_or-table f n q (f 0) h) ∙ sym (get_or-set_other (table f n) i q (g i) (f 0) ne))

-- what nine words of a record hold
record-back : (c : Component) → record_of (record_words c) ≡ c
record-back c =
    let e₁ : c.sum_x % 4294967296 + c.sum_x / 4294967296 * 4294967296 ≡ c.sum_x = mod-add-div' c.sum_x 4294967296 in
    let e₂ : c.sum_y % 4294967296 + c.sum_y / 4294967296 * 4294967296 ≡ c.sum_y = mod-add-div' c.sum_y 4294967296 in
    λ i. record { area = c.area; x0 = c.x0; y0 = c.y0; x1 = c.x1; y1 = c.y1; sum_x = e₁ i; sum_y = e₂ i }

pub each-nine : (c : Component) → length (record_words c) ≡ 9
each-nine c = refl

-- the record at i read back
pub record-read : (l : List Component) (rest : List ℕ) (i : ℕ) (d : Component) → i < length l → record_of (take 9 (drop (i * 9) (encoded record_words l ++ rest))) ≡ get_or l i d
record-read l rest i d h =
    let X = encoded record_words l ++ rest in
    let w = record_words (get_or l i d) in
    let at : (j : ℕ) → j < 9 → get_or (take 9 (drop (i * 9) X)) j 0 ≡ get_or w j 0 = λ j b. get_or-take 9 (drop (i * 9) X) j 0 b ∙ (get_or-drop (i * 9) X j 0 ∙ record-at record_words 9 each-nine l rest i j d h b) in
    fields (take 9 (drop (i * 9) X)) w at ∙ record-back (get_or l i d)
  where
    fields : (s t : List ℕ) → ((j : ℕ) → j < 9 → get_or s j 0 ≡ get_or t j 0) → record_of s ≡ record_of t
    fields s t e =
        let a₀ = e 0 (omega arith) in
        let a₁ = e 1 (omega arith) in
        let a₂ = e 2 (omega arith) in
        let a₃ = e 3 (omega arith) in
        let a₄ = e 4 (omega arith) in
        let a₅ = e 5 (omega arith) in
        let a₆ = e 6 (omega arith) in
        let a₇ = e 7 (omega arith) in
        let a₈ = e 8 (omega arith) in
        λ i. record { area = a₀ i; x0 = a₁ i; y0 = a₂ i; x1 = a₃ i; y1 = a₄ i; sum_x = a₅ i + a₆ i * 4294967296; sum_y = a₇ i + a₈ i * 4294967296 }
