-- Turns written row by row: the turns of a row are those of the mask, counted from the row's first dot.
use mathlib.Core.Path.{◌≡◌, refl, sym, ap, ◌∙◌, subst}
use mathlib.Core.List.{List, [], ◌∷◌, ◌++◌, map, append_assoc, append-nil}
use mathlib.Core.Bool.{Bool, true, false, cond, ◌&&◌, not}
use Prim.Native.Nat.{ℕ, zero, suc, ◌+◌, ◌-◌, ◌*◌, ◌/◌, ◌%◌, ◌≤◌, ◌<◌}
use native.Mathlib.Nat.{le_refl, not-suc-le-zero, suc-mul, mul_comm, mod-eq_of_lt, mod_self, mul-mod_left, mul-add-mod_self_right, mul-le-mul_right, mul_left_comm, mul-one, mul-zero}
use mir.Val.{bool_byte}
use native.Mathlib.Numerals.{add-one}
use native.Mathlib.Decide.{ℕ_discrete}
use native.Mathlib.Omega.{arith}
use borrow.Author.Tests.{eq-eqb, ne_eqb, lt-ltb, le-ltb}
use lib.ListN.{get_or, length, set, take, drop, length-set, length-map, length-append, length-drop}
use lib.Seq.{get_or-take, get_or-drop, length-take-le, drop-drop, drop-set-lt}
use lib.Dec.{eqb, ltb}
use Rattle.memory.specs.rules.Lists.{count_if}
use Rattle.memory.specs.rules.Masks.{is_ink}
use Rattle.labelling.specs.stages.InkRuns.{ink_before, differ, append_if, turns, run_count}
use Rattle.labelling.specs.stages.Extraction.{row_turns, RowRoom, RowScan, ScanRoom, Scanned, RowExtracted, PlaneRoom, Extracted}
use Rattle.memory.proofs.PlaceLaws.{count-zero, count-full}
use Rattle.labelling.proofs.TurnLaws.{bit, scanned}
use Rattle.labelling.proofs.ScanLaws.{turns-still, append-step, turns-inner, turns-last, ink_before-inner, turns-room, turns_fit}
use Rattle.labelling.proofs.RunLabelLaws.{ink_before-row, turns-even}

-- Within a row

-- no dot up to w ends a row that is wider by one
pub inner-wider : (w x : ℕ) → x < w → suc x % suc w ≡ 0 → ⊥
inner-wider w x l e = let q : suc x % suc w ≡ suc x = mod-eq_of_lt (let h : suc x < suc w = omega arith in h) in omega arith

-- no dot but the last ends a row
inner-row : (w x : ℕ) → suc x < w → suc x % w ≡ 0 → ⊥
inner-row w x l e = let q : suc x % w ≡ suc x = mod-eq_of_lt l in omega arith

-- the turns before the row's end is looked at
open-turns : (w : ℕ) (m : List ℕ) (x : ℕ) → x < w → (turns w m x ≡ turns (suc w) m x) × (ink_before w m x ≡ ink_before (suc w) m x)
unfolding turns ink_before
open-turns w m zero l = (refl, refl)
open-turns w m (suc x) l =
    let ih = open-turns w m x (omega arith) in
    let a = inner-row w x l in
    let b = inner-wider w x (omega arith) in (
      turns-inner w m x a ∙ (ap (λ t. append_if (differ t (is_ink m x)) x (turns w m x)) ih.1 ∙ (ap (append_if (differ (ink_before (suc w) m x) (is_ink m x)) x) ih.0 ∙ sym (turns-inner (suc w) m x b))),
      ink_before-inner w m x a ∙ sym (ink_before-inner (suc w) m x b),
    )

-- and with it
pub closed-turns : (w : ℕ) (m : List ℕ) → 0 < w → turns w m w ≡ append_if (ink_before (suc w) m w) w (turns (suc w) m w)
closed-turns zero m l = absurd (not-suc-le-zero l)
closed-turns (suc w) m l =
    let o = open-turns (suc w) m w (le_refl (suc w)) in
    let b = inner-wider (suc w) w (le_refl (suc w)) in
    turns-last (suc w) m w (mod_self (suc w))
    ∙ (ap (λ t. append_if (is_ink m w) (suc w) (append_if (differ t (is_ink m w)) w (turns (suc w) m w))) o.1
    ∙ (ap (λ t. append_if (is_ink m w) (suc w) (append_if (differ (ink_before (suc (suc w)) m w) (is_ink m w)) w t)) o.0
    ∙ (ap (append_if (is_ink m w) (suc w)) (sym (turns-inner (suc (suc w)) m w b)) ∙ ap (λ t. append_if t (suc w) (turns (suc (suc w)) m (suc w))) (sym (ink_before-inner (suc (suc w)) m w b)))))

-- the turns from `base` on after those that stand
pub append-map : (t : Bool) (base x : ℕ) (a l : List ℕ) → append_if t (base + x) (a ++ map (λ i. base + i) l) ≡ a ++ map (λ i. base + i) (append_if t x l)
unfolding append_if
append-map false base x a l = refl
append-map true base x a l = append_assoc a (map (λ i. base + i) l) ((base + x) ∷ []) ∙ ap (λ z. a ++ z) (sym (map_snoc l))
  where
    map_snoc : (l : List ℕ) → map (λ i. base + i) (l ++ (x ∷ [])) ≡ map (λ i. base + i) l ++ ((base + x) ∷ [])
    map_snoc [] = refl
    map_snoc (y ∷ l) = ap (λ z. (base + y) ∷ z) (map_snoc l)

pub length-append_if : (t : Bool) (x : ℕ) (l : List ℕ) → length (append_if t x l) ≡ length l + bit t
unfolding append_if
length-append_if true x l = length-append l (x ∷ [])
length-append_if false x l = let e : length l ≡ length l + 0 = omega arith in e

pub ink-bit : (m : List ℕ) (x : ℕ) → cond (eqb (get_or m x 0) 0) 0 1 ≡ bit (is_ink m x)
unfolding is_ink
ink-bit m x = go (ℕ_discrete (get_or m x 0) 0)
  where
    go : Dec (get_or m x 0 ≡ 0) → cond (eqb (get_or m x 0) 0) 0 1 ≡ bit (ltb 0 (get_or m x 0))
    go (yes e) = rw (eq-eqb (get_or m x 0) 0 e, le-ltb 0 (get_or m x 0) (let h : get_or m x 0 ≤ 0 = omega arith in h)) refl
    go (no n) = rw (ne_eqb (get_or m x 0) 0 n, lt-ltb 0 (get_or m x 0) (let h : 0 < get_or m x 0 = omega arith in h)) refl

pub turn_small : (t : Bool) → cond t 0 1 ≤ 1
turn_small true = omega arith
turn_small false = omega arith

-- a test's answer as a byte

pub byte-bit : (b : Bool) → bool_byte b ≡ cond b 1 0
byte-bit true = refl
byte-bit false = refl

pub byte-turn : (b : Bool) → bool_byte (not b) ≡ cond b 0 1
byte-turn true = refl
byte-turn false = refl

pub byte_small : (b : Bool) → bool_byte b ≤ 1
byte_small true = omega arith
byte_small false = omega arith

pub byte-ink : (m : List ℕ) (x : ℕ) → bool_byte (ltb 0 (get_or m x 0)) ≡ cond (eqb (get_or m x 0) 0) 0 1
unfolding is_ink
byte-ink m x = byte-bit (ltb 0 (get_or m x 0)) ∙ sym (ink-bit m x)

pub turn-bit : (p q : Bool) → cond (eqb (bit p) (bit q)) 0 1 ≡ bit (differ p q)
unfolding differ
turn-bit true true = refl
turn-bit true false = refl
turn-bit false true = refl
turn-bit false false = refl

-- the words from k on as they were: so are those from later on
pub rest-further : (s s₀ : List ℕ) (k k' : ℕ) → k ≤ k' → drop k s ≡ drop k s₀ → drop k' s ≡ drop k' s₀
rest-further s s₀ k k' l e =
    let q : k + (k' - k) ≡ k' = omega arith in
    ap (λ z. drop z s) (sym q) ∙ (sym (drop-drop (k' - k) k s) ∙ (ap (drop (k' - k)) e ∙ (drop-drop (k' - k) k s₀ ∙ ap (λ z. drop z s₀) q)))

-- and where a word before them changes
pub rest-on : (s s₀ : List ℕ) (k k' i v : ℕ) → k ≤ k' → i < k' → drop k s ≡ drop k s₀ → drop k' (set s i v) ≡ drop k' s₀
rest-on s s₀ k k' i v l li e = drop-set-lt k' s i v li ∙ rest-further s s₀ k k' l e

scan-none : {row : List ℕ} {base : ℕ} {s : List ℕ} {at : ℕ} → RowRoom row base s at → RowScan row base s s at at 0 0
unfolding turns ink_before
scan-none {row} {base} {s} {at} A =
    record {
      asks = A;
      len = refl;
      upto = omega arith;
      place = omega arith;
      ink = refl;
      words = sym (append-nil (take at s));
      rest = refl;
    }

pub scan-start : {row : List ℕ} {base : ℕ} {s : List ℕ} {at : ℕ} → RowRoom row base s at → RowScan row base s s at at (at % 2) 0
scan-start {row} {base} {s} {at} A = subst (λ z. RowScan row base s s at at z 0) (sym A.even) (scan-none A)

module _ {row : List ℕ} {base : ℕ} {s₀ s : List ℕ} {at k before x : ℕ} (S : RowScan row base s₀ s at k before x) where
  pub scan-room : x < length row → k < length s
  scan-room l =
      let z : 0 * length row + x ≡ x = omega arith in
      let o = ap length (sym (ap (turns (length row) row) z) ∙ refl) in
      let r = turns-room (length row) row S.asks.some 1 0 x (le_refl 1) l in
      let e = ap length (open-turns (length row) row x l).0 in
      let p = S.place in
      let h = S.asks.room in
      let n = S.len in
      let q = ap (λ y. length (turns (length row) row y)) z in
      let one : 1 * ((length row + 1) / 2) ≡ (length row + 1) / 2 = omega arith in
      omega arith

  pub scan-more : x < length row → (here turn : ℕ) → here ≡ cond (eqb (get_or row x 0) 0) 0 1 → turn ≡ cond (eqb before here) 0 1
      → RowScan row base s₀ (set s k (base + x)) at (k + turn) here (x + 1)
  scan-more l here turn eh et =
      let W = suc (length row) in
      let p = ink_before W row x in
      let q = is_ink row x in
      let d = differ p q in
      let L = turns W row x in
      let h : here ≡ bit q = eh ∙ ink-bit row x in
      let t : turn ≡ bit d = et ∙ (ap (λ z. cond (eqb z here) 0 1) S.ink ∙ (ap (λ z. cond (eqb (bit p) z) 0 1) h ∙ turn-bit p q)) in
      let b = inner-wider (length row) x l in
      let T : turns W row (suc x) ≡ append_if d x L = turns-inner W row x b in
      record {
        asks = S.asks;
        len = length-set s k (base + x) ∙ S.len;
        upto = omega arith;
        place =
            (let a = S.place in let e = length-append_if d x L in let g : k + turn ≡ at + length (append_if d x L) = omega arith in g)
            ∙ ap (λ z. at + length z) (sym T ∙ ap (turns W row) (sym (add-one x)));
        ink = h ∙ (ap bit (sym (ink_before-inner W row x b)) ∙ ap (λ z. bit (ink_before W row z)) (sym (add-one x)));
        words =
            ap (λ z. take (k + z) (set s k (base + x))) t
            ∙ (append-step s (take k s) d k (base + x) refl (scan-room l)
            ∙ (ap (append_if d (base + x)) S.words
            ∙ (append-map d base x (take at s₀) L
            ∙ ap (λ z. take at s₀ ++ map (λ i. base + i) z) (sym T ∙ ap (turns W row) (sym (add-one x))))));
        rest = rest-on s s₀ (suc k) (suc (k + turn)) k (base + x) (omega arith) (omega arith) S.rest;
      }

  module _ (l : length row ≤ x) where
    all_read : x ≡ length row
    all_read = let h = S.upto in omega arith

    last-ink : (t : Bool) → before ≡ bit t → ink_before (suc (length row)) row (length row) ≡ t
    last-ink t e = bit-one _ t (sym (S.ink ∙ ap (λ z. bit (ink_before (suc (length row)) row z)) all_read) ∙ e)
      where
        bit-one : (a b : Bool) → bit a ≡ bit b → a ≡ b
        bit-one true true e = refl
        bit-one false false e = refl
        bit-one true false e = absurd (omega arith)
        bit-one false true e = absurd (omega arith)

    closed : (t : Bool) → before ≡ bit t → turns (length row) row (length row) ≡ append_if t (length row) (turns (suc (length row)) row x)
    closed t e =
        closed-turns (length row) row S.asks.some
        ∙ (ap (λ z. append_if z (length row) (turns (suc (length row)) row (length row))) (last-ink t e)
        ∙ ap (λ z. append_if t (length row) (turns (suc (length row)) row z)) (sym all_read))

    pub scan-blank : before ≡ 0 → RowExtracted row base s₀ s at k
    unfolding append_if
    scan-blank e =
        let c = closed false e in
        record {
          len = S.len;
          words = S.words ∙ ap (λ z. take at s₀ ++ map (λ i. base + i) z) (sym c);
          upto = S.place ∙ (ap (λ z. at + length z) (sym c) ∙ ap (λ z. at + z) (sym (length-map (turns (length row) row (length row)) (λ i. base + i))));
          rest = S.rest;
        }

    ink-before : (before ≡ 0 → ⊥) → before ≡ bit true
    ink-before n = go (ink_before (suc (length row)) row x) S.ink
      where
        go : (t : Bool) → before ≡ bit t → before ≡ bit true
        go true e = e
        go false e = absurd (n e)

    pub scan-room-end : (before ≡ 0 → ⊥) → k < length s
    scan-room-end n =
        let c = ap length (closed true (ink-before n)) in
        let e = length-append_if true (length row) (turns (suc (length row)) row x) in
        let z : 1 * length row ≡ length row = omega arith in
        let q = ap (λ y. length (turns (length row) row y)) z in
        let f = turns_fit (length row) row S.asks.some 1 in
        let one : 1 * ((length row + 1) / 2) ≡ (length row + 1) / 2 = omega arith in
        let p = S.place in
        let h = S.asks.room in
        let m = S.len in
        omega arith

    pub scan-ink : (before ≡ 0 → ⊥) → RowExtracted row base s₀ (set s k (base + x)) at (k + 1)
    scan-ink n =
        let c = closed true (ink-before n) in
        let L = turns (suc (length row)) row x in
        let c' : turns (length row) row (length row) ≡ append_if true x L = c ∙ ap (λ z. append_if true z L) (sym all_read) in
        record {
          len = length-set s k (base + x) ∙ S.len;
          words =
              append-step s (take k s) true k (base + x) refl (scan-room-end n)
              ∙ (ap (append_if true (base + x)) S.words ∙ (append-map true base x (take at s₀) L ∙ ap (λ z. take at s₀ ++ map (λ i. base + i) z) (sym c')));
          upto =
              (let a = S.place in let e = length-append_if true x L in let g : k + 1 ≡ at + length (append_if true x L) = omega arith in g)
              ∙ (ap (λ z. at + length z) (sym c') ∙ ap (λ z. at + z) (sym (length-map (turns (length row) row (length row)) (λ i. base + i))));
          rest = rest-on s s₀ (suc k) (suc (k + 1)) k (base + x) (omega arith) (omega arith) S.rest;
        }

-- Dots read in chunks

pub ink-none : (m : List ℕ) → 0 ≡ count_if (is_ink m) 0
unfolding count_if
ink-none m = refl

pub ink-more : (m : List ℕ) (i count b : ℕ) → count ≡ count_if (is_ink m) i → b ≡ cond (eqb (get_or m i 0) 0) 0 1 → count + b ≡ count_if (is_ink m) (i + 1)
unfolding count_if
ink-more m i count b e h = ap (λ z. z + b) e ∙ (ap (λ z. count_if (is_ink m) i + z) (h ∙ ink-bit m i) ∙ ap (count_if (is_ink m)) (sym (add-one i)))

pub byte_more : (m : List ℕ) (i count : ℕ) → count ≡ count_if (is_ink m) i → count + bool_byte (ltb 0 (get_or m i 0)) ≡ count_if (is_ink m) (i + 1)
byte_more m i count e = ink-more m i count _ e (byte-ink m i)

pub ink-of-part : (row : List ℕ) (x d i : ℕ) → i < d → is_ink (take d (drop x row)) i ≡ is_ink row (x + i)
unfolding is_ink
ink-of-part row x d i h = ap (ltb 0) (get_or-take d (drop x row) i 0 h ∙ get_or-drop x row i 0)

pub bit-small : (t : Bool) → bit t ≤ 1
bit-small true = le_refl 1
bit-small false = omega arith

-- a turn at each dot, at most
turns-short : (w : ℕ) (m : List ℕ) (x : ℕ) → x ≤ w → length (turns (suc w) m x) ≤ x
unfolding turns
turns-short w m zero l = le_refl 0
turns-short w m (suc x) l =
    let ih = turns-short w m x (omega arith) in
    let d = differ (ink_before (suc w) m x) (is_ink m x) in
    let e = ap length (turns-inner (suc w) m x (inner-wider w x l)) in
    let f = length-append_if d x (turns (suc w) m x) in
    let b = bit-small d in
    omega arith

module _ {row : List ℕ} {base : ℕ} {s₀ s : List ℕ} {at k before x : ℕ} (S : RowScan row base s₀ s at k before x) where
  -- an odd place is that of a run's end
  pub scan-parity : k % 2 ≡ before
  scan-parity =
      let z = (scanned (suc (length row)) row (omega arith) x).0 in
      let b = bit-small (ink_before (suc (length row)) row x) in
      let e = S.ink in
      let p = S.place in
      let a = S.asks.even in
      omega arith

  pub scan-asks : (to : ℕ) → x ≤ to → to ≤ length row → ScanRoom row x to base s k
  scan-asks to l h =
      let t = turns-short (length row) row x S.upto in
      let p = S.place in
      let r = S.asks.room in
      let d = S.asks.dots in
      let n = S.len in
      record { low = l; high = h; dots = omega arith; room = omega arith }

  still-at : (v : Bool) → ink_before (suc (length row)) row x ≡ v → (d : ℕ) → x + d ≤ length row → ((i : ℕ) → i < d → is_ink row (x + i) ≡ v)
      → RowScan row base s₀ s at k before (x + d)
  still-at v e d l h =
      let T = turns-still (suc (length row)) row v x d e
      (λ i a b. subst (λ z. is_ink row z ≡ v) (let q : x + (i - x) ≡ i = omega arith in q) (h (i - x) (omega arith)))
      (λ i a b z. let q : i % suc (length row) ≡ i = mod-eq_of_lt (let y : i < suc (length row) = omega arith in y) in omega arith) in
      record {
        asks = S.asks;
        len = S.len;
        upto = l;
        place = S.place ∙ ap (λ z. at + length z) (sym T.0);
        ink = S.ink ∙ ap bit (e ∙ sym T.1);
        words = S.words ∙ ap (λ z. take at s₀ ++ map (λ i. base + i) z) (sym T.0);
        rest = S.rest;
      }

  -- a chunk whose dots are all as the one before has no turns
  pub scan-still : (d : ℕ) → x + d ≤ length row → count_if (is_ink (take d (drop x row))) d ≡ d * before → RowScan row base s₀ s at k before (x + d)
  scan-still d l e = go (ink_before (suc (length row)) row x) refl
    where
      ink-in : (i : ℕ) → i < d → is_ink (take d (drop x row)) i ≡ is_ink row (x + i)
      ink-in i h = ink-of-part row x d i h

      go : (v : Bool) → ink_before (suc (length row)) row x ≡ v → RowScan row base s₀ s at k before (x + d)
      go true q = still-at true q d l (λ i h. sym (ink-in i h) ∙ count-full (is_ink (take d (drop x row))) d (e ∙ (ap (λ z. d * z) (S.ink ∙ ap bit q) ∙ mul-one d)) i h)
      go false q = still-at false q d l (λ i h. sym (ink-in i h) ∙ count-zero (is_ink (take d (drop x row))) d (e ∙ (ap (λ z. d * z) (S.ink ∙ ap bit q) ∙ mul-zero d)) i h)

-- the dots from `from` up to x are read
pub record ScanSweep (row : List ℕ) (from to base : ℕ) (s₀ s : List ℕ) (at k before x : ℕ) : Type 0 where
  pub asks : ScanRoom row from to base s₀ at
  pub len : length s ≡ length s₀
  pub low : from ≤ x
  pub high : x ≤ to
  pub short : k ≤ at + (x - from)
  pub read : (s₁ : List ℕ) (start : ℕ) → RowScan row base s₁ s₀ start at (at % 2) from → RowScan row base s₁ s start k before x

pub sweep-none : {row : List ℕ} {from to base : ℕ} {s : List ℕ} {at : ℕ} → ScanRoom row from to base s at → ScanSweep row from to base s s at at (at % 2) from
sweep-none A = record { asks = A; len = refl; low = le_refl _; high = A.low; short = omega arith; read = λ s₁ start S. S }

module _ {row : List ℕ} {from to base : ℕ} {s₀ s : List ℕ} {at k before x : ℕ} (S : ScanSweep row from to base s₀ s at k before x) where
  pub sweep-room : x < to → k < length s
  sweep-room l = let a = S.asks.room in let b = S.short in let n = S.len in let o = S.low in omega arith

  pub sweep-more : x < to → (here turn : ℕ) → here ≡ cond (eqb (get_or row x 0) 0) 0 1 → turn ≡ cond (eqb before here) 0 1
      → ScanSweep row from to base s₀ (set s k (base + x)) at (k + turn) here (x + 1)
  sweep-more l here turn eh et =
      record {
        asks = S.asks;
        len = length-set s k (base + x) ∙ S.len;
        low = let o = S.low in omega arith;
        high = omega arith;
        short = let b = S.short in let o = S.low in let t = turn_small (eqb before here) in omega arith;
        read = λ s₁ start R. scan-more (S.read s₁ start R) (let h = S.asks.high in omega arith) here turn eh et;
      }

  pub sweep-done : to ≤ x → Scanned row from to base s₀ s at k
  sweep-done l =
      record {
        len = S.len;
        short = let b = S.short in let h = S.high in omega arith;
        read = λ s₁ start R.
            let Q = S.read s₁ start R in
            subst (λ z. RowScan row base s₁ s start k (k % 2) z) (let h = S.high in let e : x ≡ to = omega arith in e)
            (subst (λ z. RowScan row base s₁ s start k z x) (sym (scan-parity Q)) Q);
      }

-- dots read by a callee
module _ {row : List ℕ} {from to base : ℕ} {s₀ s : List ℕ} {at k x : ℕ} (S : ScanSweep row from to base s₀ s at k (k % 2) x) (upto : ℕ) (l : x ≤ upto) (h : upto ≤ to) where
  pub sweep-asks : ScanRoom row x upto base s k
  sweep-asks =
      let A = S.asks in
      let a = A.room in
      let b = A.dots in
      let c = A.high in
      let d = S.short in
      let n = S.len in
      let o = S.low in
      record { low = l; high = omega arith; dots = omega arith; room = omega arith }

-- d dots from `from` on, which are counted at once
module _ (d : ℕ) (row : List ℕ) (from : ℕ) (h : from + d ≤ length row) where
  pub chunk-long : length (take (from + d - from) (drop from row)) ≡ d
  chunk-long = let e : from + d - from ≡ d = omega arith in rw e (length-take-le d (drop from row) (simp length-drop (omega arith)))

-- a chunk that is passed over
pub chunk-still : (d : ℕ) (row : List ℕ) (from base : ℕ) (s : List ℕ) (at count : ℕ) → ScanRoom row from (from + d) base s at
    → count ≡ count_if (is_ink (take (from + d - from) (drop from row))) d → count ≡ d * (at % 2) → Scanned row from (from + d) base s s at at
chunk-still d row from base s at count A e c =
    record {
      len = refl;
      short = omega arith;
      read = λ s₁ start R. scan-still R d A.high (ap (λ z. count_if (is_ink (take z (drop from row))) d) (let q : d ≡ from + d - from = omega arith in q) ∙ (sym e ∙ c));
    }

-- Row by row

module _ (w : ℕ) (m row : List ℕ) (y : ℕ) (hw : 0 < w) (same : (x : ℕ) → x < w → get_or row x 0 ≡ get_or m (y * w + x) 0) where
  ink-same : (x : ℕ) → x < w → is_ink m (y * w + x) ≡ is_ink row x
  unfolding is_ink
  ink-same x l = ap (ltb 0) (sym (same x l))

  end_same : (x : ℕ) → suc (y * w + x) % w ≡ suc x % w
  end_same x = ap (λ z. z % w) (let e : suc (y * w + x) ≡ y * w + suc x = omega arith in e) ∙ mul-add-mod_self_right y w (suc x)

  before_same : (x : ℕ) → x < w → ink_before w m (y * w + x) ≡ ink_before w row x
  unfolding ink_before
  before_same zero l = ap (ink_before w m) (let e : y * w + 0 ≡ y * w = omega arith in e) ∙ ink_before-row w m (y * w) (mul-mod_left y w)
  before_same (suc x) l =
      ap (ink_before w m) (let e : y * w + suc x ≡ suc (y * w + x) = omega arith in e)
      ∙ (ap (λ z. cond (eqb z 0) false (is_ink m (y * w + x))) (end_same x) ∙ ap (λ t. cond (eqb (suc x % w) 0) false t) (ink-same x (omega arith)))

  turns-from : (x : ℕ) → x ≤ w → turns w m (y * w + x) ≡ turns w m (y * w) ++ map (λ i. y * w + i) (turns w row x)
  unfolding turns
  turns-from zero l = ap (turns w m) (let e : y * w + 0 ≡ y * w = omega arith in e) ∙ sym (append-nil (turns w m (y * w)))
  turns-from (suc x) l =
      let b = y * w in
      let A = turns w m b in
      let L = turns w row x in
      let i₁ = ink-same x l in
      ap (turns w m) (let e : b + suc x ≡ suc (b + x) = omega arith in e)
      ∙ (ap (λ t. append_if (is_ink m (b + x) && eqb (suc (b + x) % w) 0) (suc (b + x)) (append_if (differ (ink_before w m (b + x)) (is_ink m (b + x))) (b + x) t)) (turns-from x (omega arith))
      ∙ (ap (λ t. append_if (is_ink m (b + x) && eqb (suc (b + x) % w) 0) (suc (b + x)) (append_if (differ t (is_ink m (b + x))) (b + x) (A ++ map (λ i. b + i) L))) (before_same x l)
      ∙ (ap (λ t. append_if (t && eqb (suc (b + x) % w) 0) (suc (b + x)) (append_if (differ (ink_before w row x) t) (b + x) (A ++ map (λ i. b + i) L))) i₁
      ∙ (ap (λ z. append_if (is_ink row x && eqb z 0) (suc (b + x)) (append_if (differ (ink_before w row x) (is_ink row x)) (b + x) (A ++ map (λ i. b + i) L))) (end_same x)
      ∙ (ap (append_if (is_ink row x && eqb (suc x % w) 0) (suc (b + x))) (append-map (differ (ink_before w row x) (is_ink row x)) b x A L)
      ∙ (ap (λ z. append_if (is_ink row x && eqb (suc x % w) 0) z (A ++ map (λ i. b + i) (append_if (differ (ink_before w row x) (is_ink row x)) x L))) (let e : suc (b + x) ≡ b + suc x = omega arith in e)
      ∙ append-map (is_ink row x && eqb (suc x % w) 0) b (suc x) A (append_if (differ (ink_before w row x) (is_ink row x)) x L)))))))

-- row y of a mask h rows high, which starts at dot `base`
module _ (w h : ℕ) (m : List ℕ) (base y : ℕ) (hw : 0 < w) (whole : length m ≡ w * h) (base-is : base ≡ y * w) (l : y < h) where
  row_inside : base + w ≤ length m
  row_inside =
      let c : w * h ≡ h * w = mul_comm w h in
      let q : suc y * w ≤ h * w = mul-le-mul_right w l in
      let r : suc y * w ≡ y * w + w = suc-mul y w in
      omega arith

  row-length : length (take (base + w - base) (drop base m)) ≡ w
  row-length = let i = row_inside in let e : base + w - base ≡ w = omega arith in rw e (length-take-le w (drop base m) (simp length-drop (omega arith)))

  next-base : base + w ≡ (y + 1) * w
  next-base = let n : suc y * w ≡ y * w + w = suc-mul y w in (let q : base + w ≡ suc y * w = omega arith in q) ∙ ap (λ z. z * w) (sym (add-one y))

  -- one row more
  turns-row : turns w m ((y + 1) * w) ≡ turns w m (y * w) ++ row_turns (take (base + w - base) (drop base m)) base
  turns-row =
      let row = take (base + w - base) (drop base m) in
      ap (turns w m) (sym next-base ∙ ap (λ z. z + w) base-is)
      ∙ (turns-from w m row y hw at_row w (le_refl w)
      ∙ (ap (λ z. turns w m (y * w) ++ map (λ i. z + i) (turns w row w)) (sym base-is)
      ∙ ap (λ z. turns w m (y * w) ++ map (λ i. base + i) (turns z row z)) (sym row-length)))
    where
      at_row : (x : ℕ) → x < w → get_or (take (base + w - base) (drop base m)) x 0 ≡ get_or m (y * w + x) 0
      at_row x h = get_or-take (base + w - base) (drop base m) x 0 (omega arith) ∙ (get_or-drop base m x 0 ∙ ap (λ z. get_or m (z + x) 0) base-is)

-- the rows before row y are read
pub record PlaneScan (w h : ℕ) (m s₀ s : List ℕ) (k base y : ℕ) : Type 0 where
  pub asks : PlaneRoom w h m s₀
  pub len : length s ≡ length s₀
  pub upto : y ≤ h
  pub base-is : base ≡ y * w
  pub words : take k s ≡ turns w m (y * w)
  pub place : k ≡ length (turns w m (y * w))

pub plane-none : {w h : ℕ} {m s : List ℕ} → PlaneRoom w h m s → PlaneScan w h m s s 0 0 0
unfolding turns
plane-none {w} {h} {m} {s} A =
    let z : 0 * w ≡ 0 = omega arith in
    record {
      asks = A;
      len = refl;
      upto = omega arith;
      base-is = sym z;
      words = sym (ap (turns w m) z);
      place = sym (ap (λ n. length (turns w m n)) z);
    }

module _ {w h : ℕ} {m s₀ s : List ℕ} {k base y : ℕ} (S : PlaneScan w h m s₀ s k base y) where
  pub plane-inside : y < h → base + w ≤ length m
  plane-inside = row_inside w h m base y S.asks.wide S.asks.whole S.base-is

  module _ (l : y < h) where
    pub plane-row : RowRoom (take (base + w - base) (drop base m)) base s k
    plane-row =
        let A = S.asks in
        let e = row-length w h m base y A.wide A.whole S.base-is l in
        let i = plane-inside l in
        let f = turns_fit w m A.wide y in
        let r = A.room in
        let q : suc y * ((w + 1) / 2) ≤ h * ((w + 1) / 2) = mul-le-mul_right ((w + 1) / 2) l in
        let t : suc y * ((w + 1) / 2) ≡ y * ((w + 1) / 2) + (w + 1) / 2 = suc-mul y ((w + 1) / 2) in
        let two : h * (2 * ((w + 1) / 2)) ≡ 2 * (h * ((w + 1) / 2)) = twice h ((w + 1) / 2) in
        record {
          some = let x = A.wide in omega arith;
          dots = let d = A.dots in let n = A.whole in omega arith;
          even = let p = S.place in let z = (scanned w m A.wide (y * w)).0 in let o = ap bit (ink_before-row w m (y * w) (mul-mod_left y w)) in omega arith;
          room = rw e (let p = S.place in let n = S.len in omega arith);
        }
      where
        twice : (a b : ℕ) → a * (2 * b) ≡ 2 * (a * b)
        twice a b = mul_left_comm a 2 b

    pub plane-more : (s' : List ℕ) (r : ℕ) → RowExtracted (take (base + w - base) (drop base m)) base s s' k r → PlaneScan w h m s₀ s' r (base + w) (y + 1)
    plane-more s' r X =
        let row = take (base + w - base) (drop base m) in
        let A = S.asks in
        let T = turns-row w h m base y A.wide A.whole S.base-is l in
        record {
          asks = A;
          len = X.len ∙ S.len;
          upto = omega arith;
          base-is = next-base w h m base y A.wide A.whole S.base-is l;
          words = X.words ∙ (ap (λ z. z ++ row_turns row base) S.words ∙ sym T);
          place = X.upto ∙ ((ap (λ z. z + length (row_turns row base)) S.place ∙ sym (length-append (turns w m (y * w)) (row_turns row base))) ∙ ap length (sym T));
        }

  pub plane-done : h ≤ y → Extracted w h m s₀ s (k / 2)
  plane-done l =
      let A = S.asks in
      let e : y * w ≡ w * h = ap (λ z. z * w) (let u = S.upto in let q : y ≡ h = omega arith in q) ∙ mul_comm h w in
      let t = turns-even w h m A.wide in
      let p : k ≡ length (turns w m (w * h)) = S.place ∙ ap (λ z. length (turns w m z)) e in
      let c : k / 2 ≡ run_count w m (w * h) = omega arith in
      record {
        len = S.len;
        count = c;
        runs = ap (λ z. take z s) (let q : 2 * (k / 2) ≡ k = omega arith in q) ∙ (S.words ∙ ap (turns w m) e);
      }
