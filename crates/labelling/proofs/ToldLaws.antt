-- Turns told a chunk at a time, each by its dot and the dot before; and then written.
use mathlib.Core.Path.{◌≡◌, refl, sym, ap, ◌∙◌, subst}
use mathlib.Core.List.{List, [], ◌∷◌, ◌++◌, map, append_assoc, append-nil, map-append, map-map, map_congr_left}
use mathlib.Core.Bool.{Bool, true, false, not, beq}
use Prim.Native.Nat.{ℕ, zero, suc, ◌+◌, ◌-◌, ◌*◌, ◌%◌, ◌≤◌, ◌<◌, min}
use native.Mathlib.Nat.{le_refl}
use native.Mathlib.Numerals.{add-one}
use native.Mathlib.Decide.{ℕ_discrete}
use native.Mathlib.Omega.{arith}
use lib.ListN.{get_or, length, set, take, drop, length-set, length-map, length-append, length-take}
use lib.Seq.{get_or-set_same, get_or-set_other, take_all, take-take, drop-drop, drop-set-lt}
use lib.Dec.{ltb}
use mir.Val.{bool_byte}
use Rattle.memory.specs.rules.Limits.{max_mask_dots}
use Rattle.memory.specs.rules.Masks.{is_ink}
use Rattle.labelling.specs.stages.InkRuns.{ink_before, differ, append_if, turns}
use Rattle.labelling.specs.stages.Extraction.{RowScan, ScanRoom, Scanned, TurnsTold, told_turns, ToldRoom, ToldWritten}
use Rattle.labelling.proofs.TurnLaws.{bit}
use Rattle.labelling.proofs.ScanLaws.{append-step, turns-inner, ink_before-inner}
use Rattle.labelling.proofs.ExtractLaws.{rest-on, rest-further, inner-wider, append-map, length-append_if, ink-of-part, bit-small, scan-parity}

-- Told

pub told_more : {dots told : List ℕ} {n : ℕ} → TurnsTold dots told n → n < length told → (turn : ℕ) → turn ≡ bit (differ (is_ink dots n) (is_ink dots (suc n)))
    → TurnsTold dots (set told n turn) (n + 1)
told_more {dots} {told} {n} T h turn e = record { tells = λ i l. go i l (ℕ_discrete i n) }
  where
    go : (i : ℕ) → i < n + 1 → Dec (i ≡ n) → get_or (set told n turn) i 0 ≡ bit (differ (is_ink dots i) (is_ink dots (suc i)))
    go i l (yes q) = subst (λ z. get_or (set told n turn) z 0 ≡ bit (differ (is_ink dots z) (is_ink dots (suc z)))) (sym q) (get_or-set_same told n turn 0 h ∙ e)
    go i l (no ne) = get_or-set_other told n i turn 0 ne ∙ T.tells i (omega arith)

-- the answer of a comparison of two dots, as a byte
pub turn_byte : (dots : List ℕ) (i : ℕ) → bool_byte (not (beq (ltb 0 (get_or dots i 0)) (ltb 0 (get_or dots (i + 1) 0)))) ≡ bit (differ (is_ink dots i) (is_ink dots (suc i)))
unfolding is_ink differ
turn_byte dots i = ap (λ z. bool_byte (not (beq (ltb 0 (get_or dots i 0)) (ltb 0 (get_or dots z 0))))) (add-one i) ∙ go (ltb 0 (get_or dots i 0)) (ltb 0 (get_or dots (suc i) 0))
  where
    go : (p q : Bool) → bool_byte (not (beq p q)) ≡ bit (differ p q)
    go true true = refl
    go true false = refl
    go false true = refl
    go false false = refl

-- Written

byte-ink : (told : List ℕ) (i : ℕ) → get_or told i 0 ≤ 1 → get_or told i 0 ≡ bit (is_ink told i)
unfolding is_ink
byte-ink told i h = go (get_or told i 0) h
  where
    go : (b : ℕ) → b ≤ 1 → b ≡ bit (ltb 0 b)
    go zero h = refl
    go (suc zero) h = refl
    go (suc (suc b)) h = absurd (omega arith)

told-next : (told : List ℕ) (i : ℕ) → append_if (is_ink told i) i (told_turns told i) ≡ told_turns told (i + 1)
unfolding told_turns
told-next told i = ap (told_turns told) (sym (add-one i))

told-short : (told : List ℕ) (n : ℕ) → length (told_turns told n) ≤ n
unfolding told_turns
told-short told zero = le_refl 0
told-short told (suc i) =
    let ih = told-short told i in
    let e = length-append_if (is_ink told i) i (told_turns told i) in
    let b = bit-small (is_ink told i) in
    omega arith

pub written_none : (told : List ℕ) (start : ℕ) (s : List ℕ) (at : ℕ) → ToldWritten told 0 start s s at at
unfolding told_turns
written_none told start s at = record { len = refl; place = omega arith; words = sym (append-nil (take at s)); kept = refl; rest = refl }

module _ {told : List ℕ} {i start : ℕ} {s₀ s : List ℕ} {at k : ℕ} (S : ToldWritten told i start s₀ s at k) where
  pub written-short : k ≤ at + i
  written-short = let p = S.place in let t = told-short told i in omega arith

  module _ {n : ℕ} (A : ToldRoom told n start s₀ at) (l : i < n) where
    pub written-room : k < length s
    written-room = let b = written-short in let r = A.room in let e = S.len in omega arith

    pub written-more : ToldWritten told (i + 1) start s₀ (set s k (start + i)) at (k + get_or told i 0)
    written-more =
        let d = is_ink told i in
        let L = told_turns told i in
        let t = byte-ink told i (A.bits i l) in
        record {
          len = length-set s k (start + i) ∙ S.len;
          place =
              (let a = S.place in let e = length-append_if d i L in let g : k + get_or told i 0 ≡ at + length (append_if d i L) = omega arith in g)
              ∙ ap (λ z. at + length z) (told-next told i);
          words =
              ap (λ z. take (k + z) (set s k (start + i))) t
              ∙ (append-step s (take k s) d k (start + i) refl written-room
              ∙ (ap (append_if d (start + i)) S.words
              ∙ (append-map d start i (take at s₀) L ∙ ap (λ z. take at s₀ ++ map (λ j. start + j) z) (told-next told i))));
          kept =
              drop-set-lt (at + (i + 1)) s k (start + i) (let b = written-short in omega arith)
              ∙ (ap (λ z. drop z s) (let e : at + (i + 1) ≡ at + i + 1 = omega arith in e)
              ∙ (sym (drop-drop 1 (at + i) s)
              ∙ (ap (drop 1) S.kept
              ∙ (drop-drop 1 (at + i) s₀ ∙ ap (λ z. drop z s₀) (let e : at + i + 1 ≡ at + (i + 1) = omega arith in e)))));
          rest = rest-on s s₀ (suc k) (suc (k + get_or told i 0)) k (start + i) (omega arith) (omega arith) S.rest;
        }

    -- what writing dot i asks, and what is written then
    pub written-asks : (i < 32) × (get_or told i 0 ≤ 1) × (start + i ≤ max_mask_dots) × (k < length s)
    written-asks = let f = A.few in let d = A.dots in (omega arith, A.bits i l, omega arith, written-room)

    written_on : (m : ℕ) → m ≡ i + 1 → {s' : List ℕ} {r : ℕ} → (s' ≡ set s k (start + i)) × (r ≡ k + get_or told i 0) → ToldWritten told m start s₀ s' at r
    written_on m e {s'} {r} x =
        subst (λ z. ToldWritten told z start s₀ s' at r) (sym e)
        (subst (λ z. ToldWritten told (i + 1) start s₀ s' at z) (sym x.1)
        (subst (λ z. ToldWritten told (i + 1) start s₀ z at (k + get_or told i 0)) (sym x.0) written-more))

-- dot i is written to word k, and the next to word r
abbrev pub TurnWritten : List ℕ → ℕ → ℕ → List ℕ → ℕ → List ℕ → ℕ → Type 0
TurnWritten told i start s k s' r = (s' ≡ set s k (start + i)) × (r ≡ k + get_or told i 0)

pub four-inside : {i n : ℕ} → ((q : ℕ) × (i ≡ 4 * q)) → n ≡ 32 → i < n → i + 3 < n
four-inside {i} {n} f e l = let q = f.0 in let g : i ≡ 4 * q = f.1 in omega arith

-- four dots one after the other
module _ {told : List ℕ} {i start : ℕ} {s₀ s : List ℕ} {at k n : ℕ} (S : ToldWritten told i start s₀ s at k) (A : ToldRoom told n start s₀ at) (h : i + 3 < n)
    {s₁ : List ℕ} {k₁ : ℕ} (x₁ : TurnWritten told i start s k s₁ k₁) where
  pub written_one : ToldWritten told (i + 1) start s₀ s₁ at k₁
  written_one = written_on S A (omega arith) (i + 1) refl x₁

  module _ {s₂ : List ℕ} {k₂ : ℕ} (x₂ : TurnWritten told (i + 1) start s₁ k₁ s₂ k₂) where
    pub written-two : ToldWritten told (i + 2) start s₀ s₂ at k₂
    written-two = written_on written_one A (omega arith) (i + 2) (omega arith) x₂

    module _ {s₃ : List ℕ} {k₃ : ℕ} (x₃ : TurnWritten told (i + 2) start s₂ k₂ s₃ k₃) where
      pub written-three : ToldWritten told (i + 3) start s₀ s₃ at k₃
      written-three = written_on written-two A (omega arith) (i + 3) (omega arith) x₃

      pub written-four : {s₄ : List ℕ} {k₄ : ℕ} → TurnWritten told (i + 3) start s₃ k₃ s₄ k₄ → ToldWritten told (i + 4) start s₀ s₄ at k₄
      written-four x₄ = written_on written-three A h (i + 4) (omega arith) x₄

-- what a list keeps of its own start keeps what is written there
pub written-within : {told : List ℕ} {n start : ℕ} {s s' : List ℕ} {at r : ℕ} → ToldWritten told n start s s' at r → (m : ℕ) → at + n ≤ m
    → ToldWritten told n start (take m s) (take m s') at r
written-within {told} {n} {start} {s} {s'} {at} {r} X m h =
    let b = written-short X in
    record {
      len = simp length-take (ap (min m) X.len);
      place = X.place;
      words = take-take r m s' (omega arith) ∙ (X.words ∙ ap (λ z. z ++ map (λ i. start + i) (told_turns told n)) (sym (take-take at m s (omega arith))));
      kept = drop-take (at + n) m s' ∙ (ap (take (m - (at + n))) X.kept ∙ sym (drop-take (at + n) m s));
      rest = drop-take (suc r) m s' ∙ (ap (take (m - suc r)) X.rest ∙ sym (drop-take (suc r) m s));
    }
  where
    drop-take : (d m : ℕ) (l : List ℕ) → drop d (take m l) ≡ take (m - d) (drop d l)
    drop-take zero m l = ap (λ z. take z l) (let e : m ≡ m - 0 = omega arith in e)
    drop-take (suc d) zero l = ap (λ z. take z (drop (suc d) l)) (let e : 0 ≡ 0 - suc d = omega arith in e)
    drop-take (suc d) (suc m) [] = sym (take_all (suc m - suc d) [] (omega arith))
    drop-take (suc d) (suc m) (x ∷ l) = drop-take d m l ∙ ap (λ z. take z (drop d l)) (let e : m - d ≡ suc m - suc d = omega arith in e)

-- The told turns of a row's dots are the row's

pub chunk_count : (long from n : ℕ) → from + 32 ≤ long → n ≡ min (long - from) 32 → n ≡ 32
chunk_count long from n h e = omega arith

-- the chunk's own 32 dots, and the dot before them
abbrev pub chunk_before : List ℕ → ℕ → List ℕ
chunk_before row from = take (from + 32 - (from - 1)) (drop (from - 1) row)

-- dots counted from `base`, after others so counted
moved : (base from : ℕ) (a l : List ℕ) → map (λ j. base + j) a ++ map (λ j. base + from + j) l ≡ map (λ j. base + j) (a ++ map (λ j. from + j) l)
moved base from a l =
    ap (λ z. map (λ j. base + j) a ++ z)
    (map_congr_left {f = λ j. base + from + j} {g = λ j. base + (from + j)} {l = l} (λ j m. let q : base + from + j ≡ base + (from + j) = omega arith in q) ∙ sym (map-map (λ j. base + j) (λ j. from + j) l))
    ∙ sym (map-append (λ j. base + j) a (map (λ j. from + j) l))

module _ (row : List ℕ) (from : ℕ) (some : from ≡ 0 → ⊥) {told : List ℕ} (T : TurnsTold (chunk_before row from) told 32) where
  turn-told : (i : ℕ) → i < 32 → from + i < length row → is_ink told i ≡ differ (ink_before (suc (length row)) row (from + i)) (is_ink row (from + i))
  unfolding is_ink
  turn-told i l h =
      let before : ink_before (suc (length row)) row (from + i) ≡ is_ink (chunk_before row from) i =
      ap (ink_before (suc (length row)) row) (let e : from + i ≡ suc (from - 1 + i) = omega arith in e)
      ∙ (ink_before-inner (suc (length row)) row (from - 1 + i) (inner-wider (length row) (from - 1 + i) (omega arith)) ∙ sym (ink-of-part row (from - 1) (from + 32 - (from - 1)) i (omega arith))) in
      let here : is_ink row (from + i) ≡ is_ink (chunk_before row from) (suc i) =
      ap (is_ink row) (let e : from + i ≡ from - 1 + suc i = omega arith in e) ∙ sym (ink-of-part row (from - 1) (from + 32 - (from - 1)) (suc i) (omega arith)) in
      bit-ink (differ (is_ink (chunk_before row from) i) (is_ink (chunk_before row from) (suc i))) (T.tells i l) ∙ (ap (λ z. differ z (is_ink (chunk_before row from) (suc i))) (sym before) ∙ ap (differ (ink_before (suc (length row)) row (from + i))) (sym here))
    where
      bit-ink : (b : Bool) → get_or told i 0 ≡ bit b → is_ink told i ≡ b
      bit-ink true e = ap (ltb 0) e
      bit-ink false e = ap (ltb 0) e

  turns-told : (i : ℕ) → i ≤ 32 → from + i ≤ length row → turns (suc (length row)) row (from + i) ≡ turns (suc (length row)) row from ++ map (λ j. from + j) (told_turns told i)
  unfolding told_turns
  turns-told zero l h = ap (turns (suc (length row)) row) (let e : from + 0 ≡ from = omega arith in e) ∙ sym (append-nil (turns (suc (length row)) row from))
  turns-told (suc i) l h =
      let W = suc (length row) in
      ap (turns W row) (let e : from + suc i ≡ suc (from + i) = omega arith in e)
      ∙ (turns-inner W row (from + i) (inner-wider (length row) (from + i) (omega arith))
      ∙ (ap (λ t. append_if t (from + i) (turns W row (from + i))) (sym (turn-told i l (omega arith)))
      ∙ (ap (append_if (is_ink told i) (from + i)) (turns-told i (omega arith) (omega arith)) ∙ append-map (is_ink told i) from i (turns W row from) (told_turns told i))))

  module _ {base : ℕ} {s s' : List ℕ} {at r : ℕ} (h : from + 32 ≤ length row) (X : ToldWritten told 32 (base + from) s s' at r) where
    written_read : (s₀ : List ℕ) (start : ℕ) → RowScan row base s₀ s start at (at % 2) from → RowScan row base s₀ s' start r (r % 2) (from + 32)
    written_read s₀ start S =
        let W = suc (length row) in
        let L = told_turns told 32 in
        let e = turns-told 32 (le_refl 32) h in
        let R : RowScan row base s₀ s' start r (bit (ink_before W row (from + 32))) (from + 32) =
        record {
          asks = S.asks;
          len = X.len ∙ S.len;
          upto = h;
          place =
              (let a = X.place in let b = S.place in let g : r ≡ start + (length (turns W row from) + length L) = omega arith in g)
              ∙ (ap (λ z. start + (length (turns W row from) + z)) (sym (length-map L (λ j. from + j)))
              ∙ ap (λ z. start + z) (sym (length-append (turns W row from) (map (λ j. from + j) L)) ∙ ap length (sym e)));
          ink = refl;
          words =
              X.words
              ∙ (ap (λ z. z ++ map (λ j. base + from + j) L) S.words
              ∙ (append_assoc (take start s₀) (map (λ j. base + j) (turns W row from)) (map (λ j. base + from + j) L)
              ∙ ap (λ z. take start s₀ ++ z) (moved base from (turns W row from) L ∙ ap (map (λ j. base + j)) (sym e))));
          rest = X.rest ∙ rest-further s s₀ (suc at) (suc r) (let a = X.place in omega arith) S.rest;
        } in
        subst (λ z. RowScan row base s₀ s' start r z (from + 32)) (sym (scan-parity R)) R

  pub written-scanned : {base : ℕ} {s : List ℕ} {at : ℕ} → ScanRoom row from (from + 32) base s at → (n : ℕ) → n ≡ 32 → {s' : List ℕ} {r : ℕ}
      → ToldWritten told n (base + from) s s' at r → Scanned row from (from + 32) base s s' at r
  written-scanned {base} {s} {at} A n e {s'} {r} X =
      let Y : ToldWritten told 32 (base + from) s s' at r = subst (λ z. ToldWritten told z (base + from) s s' at r) e X in
      record { len = X.len; short = let b = written-short Y in omega arith; read = written_read A.high Y }
