-- The mask of the dots that pass a test, by ink and marks; and its turns, written before the marks.
use mathlib.Core.Path.{◌≡◌, refl, sym, ap, ◌∙◌, subst}
use mathlib.Core.Bool.{Bool, true, false, cond, ◌&&◌, not}
use mathlib.Core.List.{List}
use Prim.Native.Nat.{ℕ, suc, ◌+◌, ◌-◌, ◌*◌, ◌/◌, ◌%◌, ◌≤◌, ◌<◌}
use native.Mathlib.Nat.{mul_comm, mul_left_comm}
use native.Mathlib.Numerals.{add-one}
use native.Mathlib.Omega.{arith}
use lib.ListN.{get_or, length, set, take, drop, length-set, length-drop}
use lib.Seq.{get_or-take, get_or-drop, length-take-le, take-take, drop-drop, take-set-lt, drop-set-lt}
use lib.Dec.{eqb, ltb}
use mir.Val.{bool_byte, Fits}
use mir.Syntax.{w64}
use Rattle.memory.specs.rules.Lists.{count_if}
use Rattle.memory.proofs.TableLaws.{length-table, get_or-table, table-ext}
use Rattle.memory.proofs.PartLaws.{part-is-table}
use Rattle.memory.proofs.CountLaws.{count_none}
use Rattle.memory.specs.rules.Masks.{is_ink}
use Rattle.labelling.specs.stages.InkRuns.{differ, turns}
use Rattle.labelling.specs.stages.Extraction.{RowScan, ScanRoom, Scanned, TurnsTold, ToldWritten, RowRoom, RowExtracted}
use Rattle.labelling.specs.stages.Marked.{passes, passing, row_passing, MarkedScanRoom, MarkedScanned, MarkedRowRoom, MarkedRowLeft, MarkedRoom, MarkedLeft}
use Rattle.labelling.specs.declared.marked.Test.{Test}
use Rattle.labelling.specs.declared.marked.Test.TheVariants.{First, Second, Neither}
use Rattle.memory.proofs.PlaceLaws.{count-zero}
use Rattle.labelling.proofs.ScanLaws.{turns_fit}
use Rattle.labelling.proofs.RunLabelLaws.{turns-even}
use Rattle.labelling.proofs.ExtractLaws.{byte-turn, turn-bit, ink-more, chunk-still, ScanSweep, sweep-none, sweep-room, sweep-more, sweep-done, scan-start, scan-asks, scan-blank, scan-room-end, scan-ink, PlaneScan, plane-none, plane-inside, plane-row, plane-more, plane-done}
use Rattle.labelling.proofs.ToldLaws.{chunk_before, written-within, written-scanned}

-- The mask, dot by dot

module _ (t : Test) (ink marks : List ℕ) (n : ℕ) where
  pub passing-length : length (passing t ink marks n) ≡ n
  unfolding passing
  passing-length = length-table (λ i. cond (passes t (is_ink ink i) (get_or marks i 0)) 1 0) n

  pub passing-at : (i : ℕ) → i < n → get_or (passing t ink marks n) i 0 ≡ cond (passes t (is_ink ink i) (get_or marks i 0)) 1 0
  unfolding passing
  passing-at i l = get_or-table (λ i. cond (passes t (is_ink ink i) (get_or marks i 0)) 1 0) n i 0 l

  pub passing-ink : (i : ℕ) → i < n → is_ink (passing t ink marks n) i ≡ passes t (is_ink ink i) (get_or marks i 0)
  unfolding is_ink
  passing-ink i l = ap (ltb 0) (passing-at i l) ∙ go (passes t (is_ink ink i) (get_or marks i 0))
    where
      go : (b : Bool) → ltb 0 (cond b 1 0) ≡ b
      go true = refl
      go false = refl

  -- the mask tells the dots of other ink and other marks that are the same there
  pub passing-ext : (ink' marks' : List ℕ) → ((i : ℕ) → i < n → get_or ink i 0 ≡ get_or ink' i 0) → ((i : ℕ) → i < n → get_or marks i 0 ≡ get_or marks' i 0)
      → passing t ink marks n ≡ passing t ink' marks' n
  unfolding passing is_ink
  passing-ext ink' marks' hi hm =
      table-ext (λ i. cond (passes t (is_ink ink i) (get_or marks i 0)) 1 0) (λ i. cond (passes t (is_ink ink' i) (get_or marks' i 0)) 1 0) n
      (λ i l. ap (λ z. cond (passes t (ltb 0 z) (get_or marks i 0)) 1 0) (hi i l) ∙ ap (λ z. cond (passes t (is_ink ink' i) z) 1 0) (hm i l))

  -- a part of the mask is the mask of the parts
  pub passing-part : (a d : ℕ) → a + d ≤ n → take d (drop a (passing t ink marks n)) ≡ passing t (take d (drop a ink)) (drop a marks) d
  unfolding passing is_ink
  passing-part a d h =
      part-is-table (passing t ink marks n) a d 0 (let e = passing-length in omega arith)
      ∙ table-ext (λ i. get_or (passing t ink marks n) (a + i) 0) (λ i. cond (passes t (is_ink (take d (drop a ink)) i) (get_or (drop a marks) i 0)) 1 0) d
      (λ i l. passing-at (a + i) (omega arith)
      ∙ (ap (λ z. cond (passes t (ltb 0 z) (get_or marks (a + i) 0)) 1 0) (sym (get_or-take d (drop a ink) i 0 l ∙ get_or-drop a ink i 0))
      ∙ ap (λ z. cond (passes t (is_ink (take d (drop a ink)) i) z) 1 0) (sym (get_or-drop a marks i 0))))

bit-again : (b : Bool) → ◌≡◌ {A = ℕ} (cond b 1 0) (cond (eqb (cond b 1 0) 0) 0 1)
bit-again true = refl
bit-again false = refl

-- a test's answer as a byte

pub bit-least : (b : Bool) → cond b 1 0 ≤ 1
bit-least true = omega arith
bit-least false = omega arith

-- Counts of a chunk

pub passing-more : (t : Test) (ink marks : List ℕ) (n i count here : ℕ) → i < n → count ≡ count_if (is_ink (passing t ink marks n)) i
    → here ≡ cond (passes t (is_ink ink i) (get_or marks i 0)) 1 0 → count + here ≡ count_if (is_ink (passing t ink marks n)) (i + 1)
passing-more t ink marks n i count here l e h =
    ink-more (passing t ink marks n) i count here e
    (h ∙ (bit-again (passes t (is_ink ink i) (get_or marks i 0)) ∙ ap (λ z. cond (eqb z 0) 0 1) (sym (passing-at t ink marks n i l))))

-- no ink: none that passes
blank-fails : (t : Test) (ink : Bool) (mark : ℕ) → ink ≡ false → passes t ink mark ≡ false
blank-fails First ink mark e = ap (λ b. b && eqb (mark % 2) 1) e
blank-fails Second ink mark e = ap (λ b. b && ltb 1 mark) e
blank-fails Neither ink mark e = ap (λ b. b && eqb mark 0) e

pub passing-blank : (t : Test) (ink marks : List ℕ) (n : ℕ) → count_if (is_ink ink) n ≡ 0 → 0 ≡ count_if (is_ink (passing t ink marks n)) n
passing-blank t ink marks n e =
    sym (count_none (is_ink (passing t ink marks n)) n
    (λ i l. passing-ink t ink marks n i l ∙ blank-fails t (is_ink ink i) (get_or marks i 0) (count-zero (is_ink ink) n e i l)))

-- Dots read one by one

mark-at : (s : List ℕ) (marks base x : ℕ) → get_or (drop base (drop marks s)) x 0 ≡ get_or s (marks + base + x) 0
mark-at s marks base x = get_or-drop base (drop marks s) x 0 ∙ (get_or-drop marks s (base + x) 0 ∙ ap (λ z. get_or s z 0) (let e : marks + (base + x) ≡ marks + base + x = omega arith in e))

-- the dots from `from` up to x are read
pub record MarkedSweep (t : Test) (ink : List ℕ) (from to base : ℕ) (s₀ s : List ℕ) (at marks k before x : ℕ) : Type 0 where
  pub asks : MarkedScanRoom t ink from to base s₀ at marks
  pub len : length s ≡ length s₀
  pub sweep : ScanSweep (row_passing t ink (drop marks s₀) base) from to base (take marks s₀) (take marks s) at k before x
  pub kept : drop marks s ≡ drop marks s₀

pub marked-none : {t : Test} {ink : List ℕ} {from to base : ℕ} {s : List ℕ} {at marks : ℕ} → MarkedScanRoom t ink from to base s at marks
    → MarkedSweep t ink from to base s s at marks at (at % 2) from
marked-none A = record { asks = A; len = refl; sweep = sweep-none A.asks; kept = refl }

module _ {t : Test} {ink : List ℕ} {from to base : ℕ} {s₀ s : List ℕ} {at marks k before x : ℕ} (S : MarkedSweep t ink from to base s₀ s at marks k before x) (l : x < to) where
  pub marked-inside : x < length ink
  marked-inside = let e = passing-length t ink (drop base (drop marks s₀)) (length ink) in let h = S.asks.asks.high in omega arith

  pub marked-mark : marks + base + x < length s
  marked-mark = let h = S.asks.marked in let e = S.len in omega arith

  pub marked-before : k < marks
  marked-before =
      let h = marked-mark in
      let e = length-take-le marks s (omega arith) in
      let r = sweep-room S.sweep l in
      omega arith

  pub marked_more : (here turn : ℕ) → here ≡ cond (passes t (is_ink ink x) (get_or s (marks + base + x) 0)) 1 0 → turn ≡ cond (eqb before here) 0 1
      → MarkedSweep t ink from to base s₀ (set s k (base + x)) at marks (k + turn) here (x + 1)
  marked_more here turn e et =
      let row = row_passing t ink (drop marks s₀) base in
      let m : get_or s (marks + base + x) 0 ≡ get_or (drop base (drop marks s₀)) x 0 = sym (mark-at s marks base x) ∙ ap (λ z. get_or (drop base z) x 0) S.kept in
      let p : here ≡ cond (eqb (get_or row x 0) 0) 0 1 =
      e
      ∙ (ap (λ z. cond (passes t (is_ink ink x) z) 1 0) m
      ∙ (bit-again (passes t (is_ink ink x) (get_or (drop base (drop marks s₀)) x 0)) ∙ ap (λ z. cond (eqb z 0) 0 1) (sym (passing-at t ink (drop base (drop marks s₀)) (length ink) x marked-inside)))) in
      record {
        asks = S.asks;
        len = length-set s k (base + x) ∙ S.len;
        sweep =
            subst (λ z. ScanSweep row from to base (take marks s₀) z at (k + turn) here (x + 1)) (sym (take-set-lt marks s k (base + x) marked-before))
            (sweep-more S.sweep l here turn p et);
        kept = drop-set-lt marks s k (base + x) marked-before ∙ S.kept;
      }

pub marked-done : {t : Test} {ink : List ℕ} {from to base : ℕ} {s₀ s : List ℕ} {at marks k before x : ℕ} → MarkedSweep t ink from to base s₀ s at marks k before x → to ≤ x
    → MarkedScanned t ink from to base s₀ s at marks k
marked-done S l = record { len = S.len; scanned = sweep-done S.sweep l; kept = S.kept }

-- dots of a row, and as many marks
part-passing : (t : Test) (ink s : List ℕ) (marks base a c f g n : ℕ) → a + c ≤ length ink → f ≡ marks + base + a → c ≡ n → g ≡ n
    → take c (drop a (row_passing t ink (drop marks s) base)) ≡ passing t (take c (drop a ink)) (take g (drop f s)) n
part-passing t ink s marks base a c f g n h ef ec eg =
    passing-part t ink (drop base (drop marks s)) (length ink) a c h
    ∙ (ap (passing t (take c (drop a ink)) (drop a (drop base (drop marks s)))) ec
    ∙ passing-ext t (take c (drop a ink)) (drop a (drop base (drop marks s))) n (take c (drop a ink)) (take g (drop f s)) (λ i l. refl) mark-same)
  where
    mark-same : (i : ℕ) → i < n → get_or (drop a (drop base (drop marks s))) i 0 ≡ get_or (take g (drop f s)) i 0
    mark-same i l =
        get_or-drop a (drop base (drop marks s)) i 0
        ∙ (mark-at s marks base (a + i)
        ∙ (ap (λ z. get_or s z 0) (let q : marks + base + (a + i) ≡ f + i = omega arith in q) ∙ sym (get_or-take g (drop f s) i 0 (omega arith) ∙ get_or-drop f s i 0)))

-- A chunk passed over

pub chunk-high : {t : Test} {ink : List ℕ} {from base : ℕ} {s : List ℕ} {at marks : ℕ} → MarkedScanRoom t ink from (from + 32) base s at marks → from + 32 ≤ length ink
chunk-high {t} {ink} {from} {base} {s} {at} {marks} A = let e = passing-length t ink (drop base (drop marks s)) (length ink) in let h = A.asks.high in omega arith

pub chunk-passed : {t : Test} {ink : List ℕ} {from base : ℕ} {s : List ℕ} {at marks : ℕ} → MarkedScanRoom t ink from (from + 32) base s at marks → (count : ℕ)
    → count ≡ count_if (is_ink (passing t (take (from + 32 - from) (drop from ink)) (take (marks + base + from + 32 - (marks + base + from)) (drop (marks + base + from) s)) 32)) 32
    → count ≡ 32 * (at % 2) → MarkedScanned t ink from (from + 32) base s s at marks at
chunk-passed {t} {ink} {from} {base} {s} {at} {marks} A count e c =
    let h = chunk-high A in
    let same = part-passing t ink s marks base from (from + 32 - from) (marks + base + from) (marks + base + from + 32 - (marks + base + from)) 32 (omega arith) refl (omega arith) (omega arith) in
    record {
      len = refl;
      scanned = chunk-still 32 (row_passing t ink (drop marks s) base) from base (take marks s) at count A.asks (e ∙ ap (λ z. count_if (is_ink z) 32) (sym same)) c;
      kept = refl;
    }

-- A chunk told

pub passing-turn : (t : Test) (ink marks : List ℕ) (n i a b : ℕ) → suc i < n → a ≡ cond (passes t (is_ink ink i) (get_or marks i 0)) 1 0
    → b ≡ cond (passes t (is_ink ink (i + 1)) (get_or marks (i + 1) 0)) 1 0
    → bool_byte (not (eqb a b)) ≡ cond (differ (is_ink (passing t ink marks n) i) (is_ink (passing t ink marks n) (suc i))) 1 0
passing-turn t ink marks n i a b l ea eb =
    let p = is_ink (passing t ink marks n) i in
    let q = is_ink (passing t ink marks n) (suc i) in
    let ea' : a ≡ cond p 1 0 = ea ∙ ap (λ z. cond z 1 0) (sym (passing-ink t ink marks n i (omega arith))) in
    let eb' : b ≡ cond q 1 0 =
    eb ∙ (ap (λ z. cond (passes t (is_ink ink z) (get_or marks z 0)) 1 0) (add-one i) ∙ ap (λ z. cond z 1 0) (sym (passing-ink t ink marks n (suc i) l))) in
    byte-turn (eqb a b) ∙ (ap (λ z. cond (eqb z b) 0 1) ea' ∙ (ap (λ z. cond (eqb (cond p 1 0) z) 0 1) eb' ∙ turn-bit p q))

pub mark-fits : (x : ℕ) → Fits w64 (x * 4) → Fits w64 ((x - 1) * 4)
mark-fits x h = omega arith

module _ {t : Test} {ink : List ℕ} {from base : ℕ} {s : List ℕ} {at marks : ℕ} (A : MarkedScanRoom t ink from (from + 32) base s at marks) (n : ℕ) (e : n ≡ 32) where
  told-before : at + n ≤ marks
  told-before = let r = A.asks.room in let m = A.marked in let q = length-take-le marks s (omega arith) in omega arith

  pub marked-written : (from ≡ 0 → ⊥) → {told : List ℕ}
      → TurnsTold (passing t (chunk_before ink from) (chunk_before s (marks + base + from)) 33) told 32
      → {s' : List ℕ} {r : ℕ} → ToldWritten told n (base + from) s s' at r → MarkedScanned t ink from (from + 32) base s s' at marks r
  marked-written some {told} T {s'} {r} X =
      let h = chunk-high A in
      let same = part-passing t ink s marks base (from - 1) (from + 32 - (from - 1)) (marks + base + from - 1) (marks + base + from + 32 - (marks + base + from - 1)) 33 (omega arith) (omega arith) (omega arith) (omega arith) in
      record {
        len = X.len;
        scanned =
            written-scanned (row_passing t ink (drop marks s) base) from some (subst (λ z. TurnsTold z told 32) (sym same) T) A.asks n e
            (written-within X marks told-before);
        kept = past s' ∙ (ap (drop (marks - (at + n))) X.kept ∙ sym (past s));
      }
    where
      past : (l : List ℕ) → drop marks l ≡ drop (marks - (at + n)) (drop (at + n) l)
      past l = ap (λ z. drop z l) (let b = told-before in let q : marks ≡ at + n + (marks - (at + n)) = omega arith in q) ∙ sym (drop-drop (marks - (at + n)) (at + n) l)

-- A row

-- the first x dots of a row are read
pub record MarkedRowScan (t : Test) (ink : List ℕ) (base : ℕ) (s₀ s : List ℕ) (at marks k x : ℕ) : Type 0 where
  pub asks : MarkedRowRoom t ink base s₀ at marks
  pub len : length s ≡ length s₀
  pub scan : RowScan (row_passing t ink (drop marks s₀) base) base (take marks s₀) (take marks s) at k (k % 2) x
  pub kept : drop marks s ≡ drop marks s₀

pub marked_start : {t : Test} {ink : List ℕ} {base : ℕ} {s : List ℕ} {at marks : ℕ} → MarkedRowRoom t ink base s at marks → MarkedRowScan t ink base s s at marks at 0
marked_start A = record { asks = A; len = refl; scan = scan-start A.asks; kept = refl }

module _ {t : Test} {ink : List ℕ} {base : ℕ} {s₀ s : List ℕ} {at marks k x : ℕ} (S : MarkedRowScan t ink base s₀ s at marks k x) where
  row-long : length (row_passing t ink (drop marks s₀) base) ≡ length ink
  row-long = passing-length t ink (drop base (drop marks s₀)) (length ink)

  pub marked-upto : x ≤ length ink
  marked-upto = let e = row-long in let h = S.scan.upto in omega arith

  pub marked-asks : (to : ℕ) → x ≤ to → to ≤ length ink → MarkedScanRoom t ink x to base s k marks
  marked-asks to l h =
      record {
        asks =
            subst (λ z. ScanRoom (row_passing t ink z base) x to base (take marks s) k) (sym S.kept)
            (scan-asks S.scan to l (let e = row-long in omega arith));
        marked = let m = S.asks.marked in let e = S.len in omega arith;
      }

  pub marked-read : (s' : List ℕ) (r to : ℕ) → MarkedScanned t ink x to base s s' k marks r → MarkedRowScan t ink base s₀ s' at marks r to
  marked-read s' r to X =
      record {
        asks = S.asks;
        len = X.len ∙ S.len;
        scan = (subst (λ z. Scanned (row_passing t ink z base) x to base (take marks s) (take marks s') k r) S.kept X.scanned).read (take marks s₀) at S.scan;
        kept = X.kept ∙ S.kept;
      }

  module _ (l : length ink ≤ x) where
    row_read : length (row_passing t ink (drop marks s₀) base) ≤ x
    row_read = let e = row-long in omega arith

    pub marked-blank : k % 2 ≡ 0 → MarkedRowLeft t ink base s₀ s at marks k
    marked-blank e = record { len = S.len; extracted = scan-blank S.scan row_read e; kept = S.kept }

    module _ (n : k % 2 ≡ 0 → ⊥) where
      pub marked-room-end : k < marks
      marked-room-end =
          let r = scan-room-end S.scan row_read n in
          let m = S.asks.marked in
          let e = S.len in
          let q = length-take-le marks s (omega arith) in
          omega arith

      pub marked-fits-end : k < length s
      marked-fits-end = let r = marked-room-end in let m = S.asks.marked in let e = S.len in omega arith

      pub marked-ink : MarkedRowLeft t ink base s₀ (set s k (base + x)) at marks (k + 1)
      marked-ink =
          record {
            len = length-set s k (base + x) ∙ S.len;
            extracted =
                subst (λ z. RowExtracted (row_passing t ink (drop marks s₀) base) base (take marks s₀) z at (k + 1)) (sym (take-set-lt marks s k (base + x) marked-room-end))
                (scan-ink S.scan row_read n);
            kept = drop-set-lt marks s k (base + x) marked-room-end ∙ S.kept;
          }

-- Row by row

-- the rows before row y are read
pub record MarkedPlane (t : Test) (w h : ℕ) (ink s₀ s : List ℕ) (marks k base y : ℕ) : Type 0 where
  pub asks : MarkedRoom w h ink s₀ marks
  pub len : length s ≡ length s₀
  pub plane : PlaneScan w h (passing t ink (drop marks s₀) (w * h)) (take marks s₀) (take marks s) k base y
  pub kept : drop marks s ≡ drop marks s₀

pub marked-plane-none : (t : Test) {w h : ℕ} {ink s : List ℕ} {marks : ℕ} → MarkedRoom w h ink s marks → MarkedPlane t w h ink s s marks 0 0 0
marked-plane-none t {w} {h} {ink} {s} {marks} A =
    record {
      asks = A;
      len = refl;
      plane =
          plane-none
          (record {
            wide = A.wide;
            narrow = A.narrow;
            low = A.low;
            dots = A.dots;
            whole = passing-length t ink (drop marks s) (w * h);
            room = let b = A.before in let r = A.room in let e = length-take-le marks s (omega arith) in omega arith;
          });
      kept = refl;
    }

module _ {t : Test} {w h : ℕ} {ink s₀ s : List ℕ} {marks k base y : ℕ} (S : MarkedPlane t w h ink s₀ s marks k base y) where
  module _ (l : y < h) where
    pub marked-row-inside : base + w ≤ length ink
    marked-row-inside = let i = plane-inside S.plane l in let e = passing-length t ink (drop marks s₀) (w * h) in let q = S.asks.whole in omega arith

    ink-long : length (take (base + w - base) (drop base ink)) ≡ base + w - base
    ink-long = let i = marked-row-inside in length-take-le (base + w - base) (drop base ink) (simp length-drop (omega arith))

    row_same : take (base + w - base) (drop base (passing t ink (drop marks s₀) (w * h))) ≡ row_passing t (take (base + w - base) (drop base ink)) (drop marks s) base
    row_same =
        let i = marked-row-inside in
        let q = S.asks.whole in
        passing-part t ink (drop marks s₀) (w * h) base (base + w - base) (omega arith)
        ∙ (ap (λ z. passing t (take (base + w - base) (drop base ink)) (drop base z) (base + w - base)) (sym S.kept)
        ∙ ap (passing t (take (base + w - base) (drop base ink)) (drop base (drop marks s))) (sym ink-long))

    pub marked_row : MarkedRowRoom t (take (base + w - base) (drop base ink)) base s k marks
    marked_row =
        record {
          asks = subst (λ z. RowRoom z base (take marks s) k) row_same (plane-row S.plane l);
          marked =
              let i = marked-row-inside in
              let q = S.asks.whole in
              let r = S.asks.room in
              let n = S.len in
              let e = ink-long in
              omega arith;
        }

    pub marked-row-more : (s' : List ℕ) (r : ℕ) → MarkedRowLeft t (take (base + w - base) (drop base ink)) base s s' k marks r → MarkedPlane t w h ink s₀ s' marks r (base + w) (y + 1)
    marked-row-more s' r X =
        record {
          asks = S.asks;
          len = X.len ∙ S.len;
          plane = plane-more S.plane l (take marks s') r (subst (λ z. RowExtracted z base (take marks s) (take marks s') k r) (sym row_same) X.extracted);
          kept = X.kept ∙ S.kept;
        }

  pub marked-plane-done : h ≤ y → MarkedLeft t w h ink s₀ s marks (k / 2)
  marked-plane-done l =
      let A = S.asks in
      let m = passing t ink (drop marks s₀) (w * h) in
      let E = plane-done S.plane l in
      let c = E.count in
      let f = turns_fit w m A.wide h in
      let e = ap (λ z. length (turns w m z)) (mul_comm h w) in
      let v = turns-even w h m A.wide in
      let two : h * (2 * ((w + 1) / 2)) ≡ 2 * (h * ((w + 1) / 2)) = mul_left_comm h 2 ((w + 1) / 2) in
      let b = A.before in
      let fits : 2 * (k / 2) ≤ marks = omega arith in
      record {
        len = S.len;
        held = record { count = c; runs = sym (take-take (2 * (k / 2)) marks s fits) ∙ E.runs };
        kept = S.kept;
      }
