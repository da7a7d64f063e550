-- The labels of glyphs: counted one after the other, and written into the words of kinds.
use mathlib.Core.Path.{◌≡◌, refl, sym, ap, ◌∙◌, subst}
use mathlib.Core.Bool.{Bool, true, false}
use mathlib.Core.List.{List, [], ◌∷◌, ◌++◌}
use Prim.Native.Nat.{ℕ, suc, ◌+◌, ◌-◌, ◌/◌, ◌≤◌, ◌<◌}
use native.Mathlib.Decide.{ℕ_discrete}
use native.Mathlib.Numerals.{add-one}
use native.Mathlib.Omega.{arith}
use lib.ListN.{get_or, length, set}
use Rattle.memory.specs.rules.Lists.{table, occurs}
use Rattle.memory.proofs.TableLaws.{length-table, table-ext}
use borrow.Author.Tests.{eqb-true}
use lib.Dec.{eqb}
use Rattle.memory.specs.rules.Limits.{max_capacity}
use Rattle.sorting.specs.rules.Kinds.{glyph_kind}
use Rattle.memory.specs.stages.Stored.{Stored}
use Rattle.memory.proofs.StoredLaws.{stored_same, stored-set, stored-over}
use Rattle.smoothing.specs.stages.LineWords.{kind_word, first_number, LabelRoom, label_at, labels_at, CountRoom}
use Rattle.memory.proofs.PlaceLaws.{occurs-same, occurs-other, occurs-length}

-- Labels counted

pub labels-more : (s : List ℕ) (kinds k : ℕ) → labels_at s kinds (k + 1) ≡ labels_at s kinds k ++ (label_at s kinds k ∷ [])
unfolding table
labels-more s kinds k = ap (labels_at s kinds) (add-one k)

-- what is counted of the first k labels
abbrev pub label_count : List ℕ → ℕ → ℕ → ℕ → ℕ
label_count s kinds k t = occurs (suc t) (labels_at s kinds k)

pub labels-none : (s s' : List ℕ) (kinds glyphs smears : ℕ) → Stored (λ t. 0) glyphs smears s s' → Stored (label_count s kinds 0) glyphs smears s s'
unfolding table occurs
labels-none s s' kinds glyphs smears r = r

pub label-few : (s s' : List ℕ) (kinds glyphs smears k t : ℕ) → t < smears → Stored (label_count s kinds k) glyphs smears s s' → get_or s' (glyphs + t) 0 ≤ k
label-few s s' kinds glyphs smears k t l r =
    let a = r.each t l in
    let b = occurs-length (suc t) (labels_at s kinds k) in
    let d = length-table (label_at s kinds) k in
    omega arith

pub label-none : (s s' u : List ℕ) (kinds glyphs smears k : ℕ) → label_at s kinds k ≡ 0 → Stored (label_count s kinds k) glyphs smears s s' → u ≡ s' → Stored (label_count s kinds (k + 1)) glyphs smears s u
label-none s s' u kinds glyphs smears k z r e =
    subst (Stored (label_count s kinds (k + 1)) glyphs smears s) (sym e)
    (stored_same (label_count s kinds k) (label_count s kinds (k + 1)) glyphs smears s s'
    (λ t l. sym (ap (occurs (suc t)) (labels-more s kinds k) ∙ occurs-other (suc t) (label_at s kinds k) (labels_at s kinds k) (λ q. omega arith))) r)

pub label-counted : (s s' u : List ℕ) (kinds glyphs smears k : ℕ) → glyphs + smears ≤ length s → 0 < label_at s kinds k → label_at s kinds k ≤ smears → Stored (label_count s kinds k) glyphs smears s s'
    → u ≡ set s' (glyphs + (label_at s kinds k - 1)) (get_or s' (glyphs + (label_at s kinds k - 1)) 0 + 1) → Stored (label_count s kinds (k + 1)) glyphs smears s u
label-counted s s' u kinds glyphs smears k h p b r e =
    let v = label_at s kinds k in
    let one : suc (v - 1) ≡ v = omega arith in
    subst (Stored (label_count s kinds (k + 1)) glyphs smears s) (sym e)
    (stored-set (label_count s kinds k) (label_count s kinds (k + 1)) glyphs smears s s' (v - 1) (get_or s' (glyphs + (v - 1)) 0 + 1) h (omega arith)
    (ap (λ n. n + 1) (r.each (v - 1) (omega arith)) ∙ (ap (λ n. occurs n (labels_at s kinds k) + 1) one ∙ (sym (occurs-same v (labels_at s kinds k)) ∙ ap (λ n. occurs n (labels_at s kinds k ++ (v ∷ []))) (sym one) ∙ sym (ap (occurs (suc (v - 1))) (labels-more s kinds k)))))
    (λ t l n. sym (ap (occurs (suc t)) (labels-more s kinds k) ∙ occurs-other (suc t) v (labels_at s kinds k) (λ q. n (omega arith)))) r)

-- Kinds labelled in place: component k is not labelled yet, and what it is labelled from does not change

module _ (kinds count firsts numbers k : ℕ) (s s' : List ℕ) (r : LabelRoom kinds count firsts numbers s) (low : k < count)
    (f : Stored (λ i. kind_word (get_or s (kinds + i) 0) (first_number s firsts numbers i)) kinds k s s') where
  kept-first : get_or s' (firsts + k) 0 ≡ get_or s (firsts + k) 0
  kept-first = f.within.past (firsts + k) (omega (arith, r.behind))

  kept-number : get_or s (kinds + k) 0 ≡ glyph_kind → get_or s' (numbers + get_or s' (firsts + k) 0) 0 ≡ first_number s firsts numbers k
  kept-number g = ap (λ n. get_or s' (numbers + n) 0) kept-first ∙ f.within.before (numbers + get_or s (firsts + k) 0) (r.runs k low g)

  pub kept-kind : (get_or s' (kinds + k) 0 ≡ get_or s (kinds + k) 0) × (get_or s' (kinds + k) 0 ≡ glyph_kind → (numbers + get_or s' (firsts + k) 0 < length s') × (get_or s' (numbers + get_or s' (firsts + k) 0) 0 ≤ max_capacity))
  kept-kind =
      let e : get_or s' (kinds + k) 0 ≡ get_or s (kinds + k) 0 = f.within.past (kinds + k) (omega arith) in
      (e, λ g. let h : get_or s (kinds + k) 0 ≡ glyph_kind = sym e ∙ g in (let a = r.runs k low h in let b = kept-first in omega (arith, r.behind, r.room, f.within.len), let a = r.few k low h in let b = kept-number h in omega arith))

  pub kept_word : kind_word (get_or s' (kinds + k) 0) (get_or s' (numbers + get_or s' (firsts + k) 0) 0) ≡ kind_word (get_or s (kinds + k) 0) (first_number s firsts numbers k)
  unfolding kind_word
  kept_word = ap (λ n. kind_word n (get_or s' (numbers + get_or s' (firsts + k) 0) 0)) kept-kind.0 ∙ go (eqb (get_or s (kinds + k) 0) glyph_kind) refl
    where
      go : (t : Bool) → eqb (get_or s (kinds + k) 0) glyph_kind ≡ t
          → kind_word (get_or s (kinds + k) 0) (get_or s' (numbers + get_or s' (firsts + k) 0) 0) ≡ kind_word (get_or s (kinds + k) 0) (first_number s firsts numbers k)
      go true e = ap (kind_word (get_or s (kinds + k) 0)) (kept-number (eqb-true (get_or s (kinds + k) 0) glyph_kind e))
      go false e = rw e

-- Labels counted over words that were cleared

module _ (kinds count glyphs smears : ℕ) (s s' : List ℕ) (f : ℕ → ℕ) (room : CountRoom kinds count glyphs smears s) (r : Stored f glyphs smears s s') where
  pub label_kept : (k : ℕ) → k < count → label_at s' kinds k ≡ label_at s kinds k
  label_kept k l = ap (λ n. n / 8) (r.within.before (kinds + k) (omega (arith, room.behind)))

  pub labels-kept : labels_at s' kinds count ≡ labels_at s kinds count
  labels-kept = table-ext (label_at s' kinds) (label_at s kinds) count label_kept

  pub count_room : CountRoom kinds count glyphs smears s'
  count_room =
      record {
        behind = room.behind;
        room = (let e = r.within.len in omega (arith, room.room));
        few = room.few;
        labels = λ k l. subst (λ n. n ≤ smears) (sym (label_kept k l)) (room.labels k l);
      }

  pub counts_all : (u : List ℕ) (k : ℕ) → k ≡ count → Stored (label_count s' kinds k) glyphs smears s' u → Stored (label_count s kinds count) glyphs smears s u
  counts_all u k e q =
      stored-over r
      (stored_same (label_count s' kinds k) (label_count s kinds count) glyphs smears s' u (λ t l. ap (λ n. label_count s' kinds n t) e ∙ ap (occurs (suc t)) labels-kept) q)

module _ (kinds count glyphs smears k : ℕ) (s s' : List ℕ) (room : CountRoom kinds count glyphs smears s) (low : k < count) (r : Stored (label_count s kinds k) glyphs smears s s') (v : ℕ)
    (e : v ≡ label_at s' kinds k) where
  same-label : v ≡ label_at s kinds k
  same-label = e ∙ label_kept kinds count glyphs smears s s' (label_count s kinds k) room r k low

  pub label-room : 0 < v → (glyphs + v ≤ length s') × (get_or s' (glyphs + (v - 1)) 0 < 4294967295)
  label-room h =
      let a = room.labels k low in
      let b = same-label in
      let d = label-few s s' kinds glyphs smears k (v - 1) (omega arith) r in
      (omega (arith, r.within.len, room.room), omega (arith, room.few))

  pub label-step : (u : List ℕ) → (v ≡ 0 → u ≡ s') → (0 < v → u ≡ set s' (glyphs + (v - 1)) (get_or s' (glyphs + (v - 1)) 0 + 1)) → Stored (label_count s kinds (k + 1)) glyphs smears s u
  label-step u z p = go (ℕ_discrete v 0)
    where
      go : Dec (v ≡ 0) → Stored (label_count s kinds (k + 1)) glyphs smears s u
      go (yes y) = label-none s s' u kinds glyphs smears k (sym same-label ∙ y) r (z y)
      go (no y) =
          label-counted s s' u kinds glyphs smears k room.room (let b = same-label in omega arith) (room.labels k low) r
          (p (omega arith) ∙ ap (λ n. set s' (glyphs + (n - 1)) (get_or s' (glyphs + (n - 1)) 0 + 1)) same-label)
